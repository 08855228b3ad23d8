-- The keys of bindings and of variables. Assumes nothing.
use Rattle.std.specs.Prelude.{Bool, ◌&&◌, ◌==◌}
use Rattle.rules.specs.Evaluate.{Slot, same_slot}
use Rattle.word.specs.Words.{spelling, home_of, same_spelling}
use Rattle.table.specs.declared.bound_key.BoundKey.{BoundKey}
use Rattle.table.specs.declared.variable_key.VariableKey.{VariableKey}

-- a name is bound once at a level
abbrev pub same_bound : BoundKey → BoundKey → Bool
same_bound a b = same_spelling a.word b.word && a.level == b.level

-- the variable that a key means
abbrev pub slot_of : VariableKey → Slot
slot_of k = record { text = spelling k.name; owner = home_of k.instance; level = k.level }

abbrev pub same_variable : VariableKey → VariableKey → Bool
same_variable a b = same_slot (slot_of a) (slot_of b)
