-- What the code answers where the definition of the order has an answer or stops. Assumes nothing.
use Rattle.std.specs.Prelude.{◌≡◌, Some, None, Ok, Err, vec_items, Option, Result}
use Rattle.table.specs.declared.order.Halt.{Halt}
use Rattle.table.specs.declared.order.Halt.TheVariants.{Refused, TooDeep, Memory}
use Rattle.table.specs.declared.order.Trail.{Trail}
use Rattle.table.specs.Order.{Stop, refuses, too_deep, Walked}

abbrev pub Stopped : {N R : Type 0} → Stop N R → Halt N R → Type 0
Stopped (refuses r) (Refused q) = q ≡ r
Stopped (refuses r) (TooDeep m) = ⊥
Stopped (refuses r) Memory = Unit {0}
Stopped (too_deep n) (Refused q) = ⊥
Stopped (too_deep n) (TooDeep m) = m ≡ n
Stopped (too_deep n) Memory = Unit {0}

abbrev pub NoMemory : {N R : Type 0} → Halt N R → Type 0
NoMemory (Refused q) = ⊥
NoMemory (TooDeep m) = ⊥
NoMemory Memory = Unit {0}

-- the definition's answer, or where it stops; there may be no memory to come so far
abbrev pub Gave : {X Y N R : Type 0} → (X → Y → Type 0) → Result X (Stop N R) → Result Y (Halt N R) → Type 0
Gave P (Ok x) (Ok y) = P x y
Gave P (Ok x) (Err h) = NoMemory h
Gave P (Err s) (Ok y) = ⊥
Gave P (Err s) (Err h) = Stopped s h

-- the same, where only a refusal is asked about
abbrev pub Passed : {Y N R : Type 0} → Option R → Result Y (Halt N R) → Type 0
Passed None (Ok y) = Unit {0}
Passed None (Err h) = NoMemory h
Passed (Some r) (Ok y) = ⊥
Passed (Some r) (Err h) = Stopped (refuses r) h

abbrev pub walked : {N : Type 0} → Trail N → Walked N
walked t = record { met = vec_items t.met; ended = vec_items t.ended }
