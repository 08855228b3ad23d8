use Rattle.std.proofs.Common.{◌≡◌, [], ◌∷◌, ◌++◌, take, vec_items}
use Rattle.std.specs.List.{flat_map}
use Rattle.artefact.proofs.line.put_line.Given as goal

abbrev pub invariant-loop-field : goal.invariant-loop-field
invariant-loop-field l = vec_items l.out ≡ vec_items l.initial.out ++ flat_map (λ f. f.now ++ (32 ∷ [])) (take l.field-index l.front)
