-- What a refusal of the code stands for. Assumes nothing.
use Rattle.std.specs.Prelude.{ℕ, List, [], ◌++◌, codes, decimal, Some, None, Option}
use Rattle.std.specs.Option.{option_map}
use Rattle.rules.specs.Refusals.{Refusal as PureRefusal}
use Rattle.text.specs.declared.refusal.Refusal.{Refusal}
use Rattle.rules.specs.Causes.{number_of}
use Rattle.word.specs.declared.Word.{Word}
use Rattle.word.specs.Words.{spelling, printed}

abbrev pub refusal_of : Refusal → PureRefusal
refusal_of r = record { cause = r.cause; working_for = option_map spelling r.working_for; module_name = option_map spelling r.«module»; place = r.place }

-- printed one after the other, where it is known what each prints
abbrev pub both : Option (List ℕ) → Option (List ℕ) → Option (List ℕ)
both (Some a) (Some b) = Some (a ++ b)
both (Some a) None = None
both None b = None

-- a word behind a label, or nothing
abbrev pub labelled : List ℕ → Option Word → Option (List ℕ)
labelled label None = Some []
labelled label (Some w) = both (Some label) (printed (spelling w))

-- the place: a row of rows that ran for a module, else an offset
abbrev pub placed_at : Option Word → Option ℕ → Option (List ℕ)
placed_at w None = Some []
placed_at None (Some n) = Some (codes " offset " ++ decimal n)
placed_at (Some w) (Some n) = Some (codes " row " ++ decimal n)

-- what is printed of a refusal: the number of its cause, and the parts that apply
abbrev pub refusal_printed : Refusal → Option (List ℕ)
refusal_printed r = both (both (both (Some (codes "refused " ++ decimal (number_of r.cause))) (labelled (codes " for ") r.working_for)) (labelled (codes " module ") r.«module»)) (placed_at r.working_for r.place)
