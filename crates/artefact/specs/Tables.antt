-- What the reader takes from the front of a text. Assumes nothing.
use Rattle.std.specs.Prelude.{◌≡◌, ℕ, ◌<◌, ◌≤◌, List, ◌∷◌, ◌++◌, length, drop, Some, None, Ok, Err, vec_items, Option, Result, Vec, ◌≢◌}
use Rattle.std.specs.declared.alloc.Global.{Global}
use Rattle.std.specs.List.{flat_map, AllByRecursion}
use Rattle.rules.specs.Rows.{Module as PureModule}
use Rattle.rules.specs.Artefact.{artefact}
use Rattle.artefact.specs.declared.reader.ReadFault.{ReadFault}
use Rattle.artefact.specs.declared.reader.ReadFault.TheVariants.{NotAnArtefact, Memory}
use Rattle.artefact.specs.declared.writer.WriteFault.{WriteFault}
use Rattle.modules.specs.declared.module.Module.{Module}
use Rattle.modules.specs.Says.{Says}
use Rattle.modules.specs.Limits.{WithinLimits}
use Rattle.artefact.specs.Lines.{written, FitsRequire, FitsDefinition, FitsRow, LawfulRow}

-- no lawful line stands in front
abbrev pub Stops : (List ℕ → Type 0) → List ℕ → Type 0
Stops lawful s = (l rest : List ℕ) → lawful l → s ≢ l ++ rest

-- the entry in front, and what comes after it; or there is none
abbrev pub Took : {E : Type 0} → (E → List ℕ) → (E → Type 0) → (List ℕ → Type 0) → List ℕ → List ℕ → Option E → Type 0
Took line fits lawful before after None = (after ≡ before) × Stops lawful before
Took line fits lawful before after (Some x) = (before ≡ line x ++ after) × fits x × (length after < length before)

-- the entries in front, as many as there are
pub record Tabled {E : Type 0} (line : E → List ℕ) (fits : E → Type 0) (lawful : List ℕ → Type 0) (before after : List ℕ) (xs : List E) : Type 0 where
  pub lines : before ≡ flat_map line xs ++ after
  pub fit : AllByRecursion fits xs
  pub stops : Stops lawful after

-- nothing is there of the kind; want of memory says nothing of the text
abbrev pub Refuses : Type 0 → ReadFault → Type 0
Refuses P NotAnArtefact = P
Refuses P Memory = Unit {0}

-- no line with that title is in front
abbrev pub Untitled : List ℕ → List ℕ → Type 0
Untitled title before = (rest : List ℕ) → before ≢ title ++ (10 ∷ rest)

-- a line with that title in front, and what comes after it; or there is none
abbrev pub Titled : List ℕ → List ℕ → List ℕ → Result (Unit {0}) ReadFault → Type 0
Titled title before after (Ok _) = before ≡ title ++ (10 ∷ after)
Titled title before after (Err f) = Refuses (Untitled title before) f

-- a title and the entries under it; or no such title
abbrev pub Section : {E : Type 0} → (E → List ℕ) → (E → Type 0) → (List ℕ → Type 0) → List ℕ → List ℕ → List ℕ → Result (Vec E Global) ReadFault → Type 0
Section line fits lawful title before after (Err f) = Refuses (Untitled title before) f
Section line fits lawful title before after (Ok v) = (rest : List ℕ) × (before ≡ title ++ (10 ∷ rest)) × Tabled line fits lawful rest after (vec_items v)

-- the parts of a module keep their limits
pub record PartsFit (m : Module) : Type 0 where
  pub requires : AllByRecursion FitsRequire (vec_items m.required)
  pub definitions : AllByRecursion FitsDefinition (vec_items m.definitions)
  pub rows : AllByRecursion FitsRow (vec_items m.rows)

abbrev pub ArtefactOfNone : List ℕ → Type 0
ArtefactOfNone bytes = (p : PureModule) → WithinLimits p → artefact p ≡ bytes → ⊥

-- the tables in front are those of a module, and no row comes after them; or they are those of none
abbrev pub Tables : List ℕ → List ℕ → Result Module ReadFault → Type 0
Tables before after (Err f) = Refuses (ArtefactOfNone before) f
Tables before after (Ok m) = (before ≡ written m ++ after) × PartsFit m × Stops LawfulRow after

-- the bytes are the artefact of the module; or they are that of none
abbrev pub Read : List ℕ → Result Module ReadFault → Type 0
Read bytes (Ok m) = (p : PureModule) × Says m p × WithinLimits p × (artefact p ≡ bytes)
Read bytes (Err f) = Refuses (ArtefactOfNone bytes) f

-- the bytes of a module come after what was written, and they are the artefact of the module of the rules that it says
pub record Appended (m : Module) (before after : List ℕ) : Type 0 where
  pub as_is : after ≡ before ++ written m
  pub as_ruled : (p : PureModule) → Says m p → after ≡ before ++ artefact p

-- the bytes are those that are written of a module, and the artefact of the module of the rules that it says
pub record Wrote (m : Module) (bytes : List ℕ) : Type 0 where
  pub as_is : bytes ≡ written m
  pub as_ruled : (p : PureModule) → Says m p → bytes ≡ artefact p

-- the bytes are in front of the buffer, whose rest is as it was; or they do not fit or there is no memory, and all of it is
abbrev pub Fronted : List ℕ → List ℕ → List ℕ → Result ℕ WriteFault → Type 0
Fronted bytes before after (Ok n) = (n ≡ length bytes) × (n ≤ length before) × (after ≡ bytes ++ drop n before)
Fronted bytes before after (Err WriteFault.NoRoom) = (length before < length bytes) × (after ≡ before)
Fronted bytes before after (Err WriteFault.Memory) = after ≡ before
