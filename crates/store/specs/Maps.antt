-- What a store's calls answer, over the map that it stands for. Assumes nothing.
use Rattle.std.specs.Prelude.{◌≡◌, ℕ, Bool, true, false, cond, ◌&&◌, List, ◌++◌, length, drop, codes, Some, None, Ok, Err, Option, Result, nat_le}
use Rattle.std.specs.Str.{bytes_eq}
use Rattle.store.specs.declared.Kind.{Kind}
use Rattle.store.specs.declared.Kind.TheVariants.{Text, Artefact}
use Rattle.store.specs.declared.Change.{Change}
use Rattle.store.specs.declared.Miss.{Miss}
use Rattle.store.specs.declared.Miss.TheVariants.{Absent, Short}

-- for each name and kind, nothing or bytes
abbrev pub Map : Type 0
Map = List ℕ → Kind → Option (List ℕ)

-- for each name and kind, the changes that are taken
abbrev pub Taken : Type 0
Taken = List ℕ → Kind → Change → Bool

abbrev pub same_kind : Kind → Kind → Bool
same_kind Text Text = true
same_kind Text Artefact = false
same_kind Artefact Text = false
same_kind Artefact Artefact = true

-- the kind of that name
abbrev pub kind_named : List ℕ → Option Kind
kind_named text = cond (bytes_eq text (codes "text")) (Some Text) (cond (bytes_eq text (codes "artefact")) (Some Artefact) None)

-- one entry is the other
abbrev pub same_place : List ℕ → Kind → List ℕ → Kind → Bool
same_place n k m j = bytes_eq n m && same_kind k j

-- what a fetch answers, of what stands and how long the buffer is
abbrev pub answered : Option (List ℕ) → ℕ → Result ℕ Miss
answered None room = Err Absent
answered (Some bytes) room = cond (nat_le (length bytes) room) (Ok (length bytes)) (Err Short)

-- what the buffer holds after a fetch: the bytes and its own rest, or what it held
abbrev pub fronted : Option (List ℕ) → List ℕ → List ℕ
fronted None out = out
fronted (Some bytes) out = cond (nat_le (length bytes) (length out)) (bytes ++ drop (length bytes) out) out

-- the map after a change of one entry that was taken or not
abbrev pub Writes : Bool → Map → Map → List ℕ → Kind → Option (List ℕ) → Type 0
Writes taken old new n k value = (m : List ℕ) (j : Kind) → new m j ≡ cond (taken && same_place n k m j) value (old m j)

-- a change that was not taken leaves as it was what is taken
abbrev pub Keeps : Bool → Taken → Taken → Type 0
Keeps true old new = Unit {0}
Keeps false old new = (m : List ℕ) (j : Kind) (c : Change) → new m j c ≡ old m j c
