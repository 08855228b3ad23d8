-- What slots take once they are all free.
use Rattle.std.proofs.Common.{◌≡◌, ℕ, ◌&&◌, ltb, leb, List, length, refl, ap, ◌∙◌}
use Rattle.std.proofs.lemmas.List.{length-map}
use Rattle.store.specs.declared.Change.{Change}
use Rattle.store.specs.declared.Change.TheVariants.{Put, Remove}
use Rattle.store.specs.declared.Kind.{Kind}
use Rattle.store.specs.declared.row.Row.{Row}
use Rattle.store.specs.Rows.{Line, emptied}
use Rattle.store.specs.Slotted.{slot_says, slot_rows, taken_by, taken_fresh}
use Rattle.store.proofs.Looks.{place_emptied}

pub fresh_takes : (old : List (Row ℕ 8192)) (after : List Line) → after ≡ emptied (slot_rows old) → (n : List ℕ) (k : Kind) (c : Change) → taken_by after n k c ≡ taken_fresh (length old) c
fresh_takes old after e n k (Put len) = ap (λ b. leb len 8192 && b) (place_emptied (slot_rows old) after e n k ∙ ap (ltb 0) (length-map old slot_says))
fresh_takes old after e n k Remove = refl
