-- What was fetched is what stands.
use Rattle.std.proofs.Common.{◌≡◌, ℕ, ◌-◌, Bool, true, false, cond, leb, List, ◌++◌, length, take, drop, Some, None, Ok, Err, Option, sym, refl, ap, ◌∙◌, arith}
use Rattle.std.proofs.lemmas.List.{take_at}
use Rattle.store.specs.declared.Kind.{Kind}
use Rattle.store.specs.declared.Change.{Change}
use Rattle.store.specs.declared.Change.TheVariants.{Put}
use Rattle.store.specs.declared.copy.CopyFault.TheVariants.{Short}
use Rattle.store.specs.Maps.{Map, same_place, Writes, answered, fronted}
use Rattle.store.specs.Copied.{copied, if_taken}

-- the bytes, and that they fit
pub record Fetched (held : Option (List ℕ)) (room : ℕ) (front : List ℕ) : Type 0 where
  pub stands : held ≡ Some front
  pub fits : leb (length front) room ≡ true

pub fetched : (held : Option (List ℕ)) (buffer out : List ℕ) (n : ℕ) → Ok n ≡ answered held (length buffer) → out ≡ fronted held buffer → Fetched held (length buffer) (take (n - 0) out)
fetched None buffer out n a o = absurd (let z : ◌≡◌ {A = ℕ} 0 1 = cc in omega arith)
fetched (Some bytes) buffer out n a o = by (leb (length bytes) (length buffer)) refl
  where
    by : (b : Bool) → leb (length bytes) (length buffer) ≡ b → Fetched (Some bytes) (length buffer) (take (n - 0) out)
    by false t = absurd (let e : Ok n ≡ Err _ = rw t at a in let z : ◌≡◌ {A = ℕ} 0 1 = cc in omega arith)
    by true t =
        let e : Ok n ≡ Ok (length bytes) = rw t at a in
        let l : n ≡ length bytes = cc in
        let m : length bytes ≡ n - 0 = omega arith in
        let p : out ≡ bytes ++ drop (length bytes) buffer = rw t at o in
        let q : take (n - 0) out ≡ bytes = ap (take (n - 0)) p ∙ take_at bytes (drop (length bytes) buffer) (n - 0) m in
        record { stands = ap Some (sym q); fits = ap (λ bs. leb (length bs) (length buffer)) q ∙ t }

pub copied_fetched : (held : Option (List ℕ)) (room : ℕ) (front : List ℕ) (takes : Change → Bool) (ok : Bool) → Fetched held room front → ok ≡ takes (Put (length front)) → if_taken ok ≡ copied held takes room
copied_fetched held room front takes ok f t =
    ap if_taken t
    ∙ sym (ap (λ h. copied h takes room) f.stands ∙ ap (λ b. cond b (if_taken (takes (Put (length front)))) (Err Short)) f.fits)

pub writes_fetched : (old new : Map) (n : List ℕ) (k : Kind) (held : Option (List ℕ)) (room : ℕ) (front : List ℕ) → Fetched held room front → Writes true old new n k (Some front) → Writes true old new n k held
writes_fetched old new n k held room front f w m j = w m j ∙ ap (λ v. cond (same_place n k m j) v (old m j)) (sym f.stands)
