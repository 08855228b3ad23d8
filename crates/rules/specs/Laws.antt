-- What holds of every text that is read: where it is refused, with which causes, and that nothing but its bytes and its home counts. Assumes nothing.
use Rattle.std.specs.Prelude.{◌≡◌, ℕ, ◌≤◌, List, map, length}
use Rattle.rules.specs.declared.cause.Cause.{Cause}
use Rattle.rules.specs.Causes.{number_of}
use Rattle.rules.specs.Words.{Home, Datum, number, word, empty, pair}
use Rattle.rules.specs.Reading.{Form, Read, reads, refused, read}

-- a text that is refused has its fault within the text, or at its length
abbrev pub FaultsLieWithin : Type 0
FaultsLieWithin = (h : Home) (bytes : List ℕ) (c : Cause) (at : ℕ) → read h bytes ≡ refused c at → at ≤ length bytes

-- reading refuses for a stray byte, a bad item, what is unbalanced, or too deep a nesting: causes 10 to 13
abbrev pub RefusesAsReading : Type 0
RefusesAsReading = (h : Home) (bytes : List ℕ) (c : Cause) (at : ℕ) → read h bytes ≡ refused c at → (10 ≤ number_of c) × (number_of c ≤ 13)

-- a datum with each of its words moved to one home
abbrev pub rehomed : Home → Datum → Datum
rehomed h (number z) = number z
rehomed h (word w g) = word w h
rehomed h empty = empty
rehomed h (pair a b) = pair (rehomed h a) (rehomed h b)

abbrev pub rehomed_form : Home → Form → Form
rehomed_form h f = record { offset = f.offset; datum = rehomed h f.datum }

-- what has been read, changed; a refusal stays as it is
abbrev pub mapped : {A B : Type 0} → (A → B) → Read A → Read B
mapped f (reads a) = reads (f a)
mapped f (refused c at) = refused c at

abbrev pub rehomed_read : Home → Read (List Form) → Read (List Form)
rehomed_read h r = mapped (map (rehomed_form h)) r

-- The same bytes read alike in any two homes: they are refused alike, or have the same forms at the same offsets, but for the home of each word.
abbrev pub ReadsByBytesAndHome : Type 0
ReadsByBytesAndHome = (g h : Home) (bytes : List ℕ) → read h bytes ≡ rehomed_read h (read g bytes)
