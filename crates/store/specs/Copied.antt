-- The copy of one entry into another store. Assumes nothing.
use Rattle.std.specs.Prelude.{ℕ, Bool, true, false, cond, List, length, Some, None, Ok, Err, Option, Result, nat_le}
use Rattle.store.specs.declared.Change.{Change}
use Rattle.store.specs.declared.Change.TheVariants.{Put, Remove}
use Rattle.store.specs.declared.copy.CopyFault.{CopyFault}
use Rattle.store.specs.declared.copy.CopyFault.TheVariants.{NotTaken, Short}

abbrev pub if_taken : Bool → Result (Unit {0}) CopyFault
if_taken true = Ok tt
if_taken false = Err NotTaken

-- what a copy answers, of what stands, what the other store takes and how long the buffer is
abbrev pub copied : Option (List ℕ) → (Change → Bool) → ℕ → Result (Unit {0}) CopyFault
copied None takes room = if_taken (takes Remove)
copied (Some bytes) takes room = cond (nat_le (length bytes) room) (if_taken (takes (Put (length bytes)))) (Err Short)
