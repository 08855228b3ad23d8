-- A walk through a table's entries, and a write to it.
use Rattle.std.proofs.Common.{◌≡◌, ℕ, zero, suc, ◌+◌, ◌<◌, Bool, List, ◌∷◌, length, get_or, drop, replicate, None, Option, sym, refl, ap, ◌∙◌}
use Rattle.std.proofs.lemmas.List.{drop_more}
use Rattle.table.specs.declared.key_table.Entry.{Entry}
use Rattle.table.specs.Entries.{look, held}

pub at_item : {A : Type 0} (es : List A) (i : ℕ) (x y : A) → i < length es → x ≡ get_or es i x → x ≡ y → drop i es ≡ y ∷ drop (i + 1) es
at_item es i x y h e f = drop_more es i x h ∙ ap (λ u. u ∷ drop (i + 1) es) (sym e ∙ f)

-- the table that `new` leaves

look_blanks : {K V : Type 0} (like : K → K → Bool) (n : ℕ) (k : K) → look {V = V} like (replicate n None) k ≡ None
look_blanks like zero k = refl
look_blanks like (suc n) k = look_blanks like n k

held_blanks : (K V : Type 0) (n : ℕ) → held {K = K} {V = V} (replicate n None) ≡ 0
held_blanks K V zero = refl
held_blanks K V (suc n) = held_blanks K V n

pub blanked_look : {K V : Type 0} (like : K → K → Bool) (n : ℕ) {es : List (Option (Entry K V))} (k : K) → es ≡ replicate n None → look like es k ≡ None
blanked_look like n k e = ap (λ l. look like l k) e ∙ look_blanks like n k

pub blanked_held : {K V : Type 0} (n : ℕ) {es : List (Option (Entry K V))} → es ≡ replicate n None → held es ≡ 0
blanked_held {K = K} {V = V} n e = ap held e ∙ held_blanks K V n
