-- Successors that are not refused.
use Rattle.std.proofs.Common.{◌≡◌, ℕ, ◌<◌, Bool, true, false, cond, leb, Some, None, Ok, arith, rules}
use Rattle.table.specs.Order.{Stop, unless}
use Rattle.table.specs.Outcomes.{Gave}

-- fewer have been met than may be
pub under : {X Y R : Type 0} (N : Type 0) (P : X → Y → Type 0) (most met : ℕ) (r : R) (x : X) (y : Y) → met < most → P x y → Gave {N = N} P (unless (cond (leb most met) (Some r) None) x) (Ok y)
under N P most met r x y h g = by_test (leb most met) (let t : leb most met ≡ false = search rules in t)
  where
    by_test : (b : Bool) → b ≡ false → Gave {N = N} P (unless (cond b (Some r) None) x) (Ok y)
    by_test true e = absurd (let z : ◌≡◌ {A = ℕ} 0 1 = cc in omega arith)
    by_test false e = g
