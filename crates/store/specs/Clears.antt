-- To remove nothing from drafts is always taken: the law that a store owes. Assumes nothing.
use Rattle.std.specs.Prelude.{◌≡◌, ℕ, ◌+◌, Bool, true, false, not, ◌||◌, List, [], ◌∷◌, is_some, Some, None, Option, refl}
use Rattle.std.specs.List.{position_from}
use Rattle.std.specs.Option.{option_or}
use Rattle.std.proofs.Common.{arith}
use Rattle.std.proofs.lemmas.Bool.{both_ways}
use Rattle.store.specs.declared.Change.TheVariants.{Remove}
use Rattle.store.specs.declared.Kind.{Kind}
use Rattle.store.specs.Maps.{Map}
use Rattle.store.specs.Rows.{Line, is_at, look, place_for, over}
use Rattle.store.specs.Drafted.{taken_over}

module _ (n : List ℕ) (k : Kind) where
  -- an entry that is absent over one that stands has a row
  has_row : (rows : List Line) (c : ℕ) (x : List ℕ) → look rows n k (Some x) ≡ None → is_some (position_from (is_at n k) c rows) ≡ true
  has_row [] c x e = absurd (let y : ◌≡◌ {A = ℕ} 0 1 = cc in omega arith)
  has_row (r ∷ rows) c x e = by (λ z. has_row rows (c + 1) x z) (is_at n k r) refl
    where
      by : (look rows n k (Some x) ≡ None → is_some (position_from (is_at n k) (c + 1) rows) ≡ true) → (b : Bool) → is_at n k r ≡ b → is_some (position_from (is_at n k) c (r ∷ rows)) ≡ true
      by more true t = rw t
      by more false t = rw t (more (rw t at e))

  option_or_some : (o p : Option ℕ) → is_some o ≡ true → is_some (option_or o p) ≡ true
  option_or_some (Some i) p t = refl
  option_or_some None p t = absurd (both_ways false refl t)

  pub drafts_clear : (below : Map) (rows : List Line) → over rows below n k ≡ None → taken_over below rows n k Remove ≡ true
  drafts_clear below rows e = by (below n k) refl
    where
      by : (o : Option (List ℕ)) → below n k ≡ o → (not (is_some (below n k)) || is_some (place_for rows n k)) ≡ true
      by None q = rw q
      by (Some x) q = rw q (option_or_some (position_from (is_at n k) 0 rows) _ (has_row rows 0 x (rw q at e)))
