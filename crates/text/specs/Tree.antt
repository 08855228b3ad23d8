-- How the tree of a text that is being read stands for what the rules say has been read. Assumes nothing.
use Rattle.std.specs.Prelude.{◌≡◌, ℕ, ◌≤◌, List, [], ◌∷◌, length, drop, take, reverse, Some, Ok, Err, vec_items, Result}
use Rattle.rules.specs.declared.cause.Cause.{Cause}
use Rattle.rules.specs.Words.{Home}
use Rattle.rules.specs.Reading.{Read, reads, refused, Open as PureOpen, bracket, quoted, Progress}
use Rattle.rules.specs.Reading.{Form as PureForm}
use Rattle.rules.specs.Refusals.{placed}
use Rattle.word.specs.declared.Word.{Word}
use Rattle.text.specs.declared.data.Cell.{Cell}
use Rattle.text.specs.declared.data.Value.{Value}
use Rattle.text.specs.declared.refusal.ReadFault.{ReadFault}
use Rattle.text.specs.declared.tree.Open.{Open}
use Rattle.text.specs.declared.tree.Form.{Form}
use Rattle.text.specs.declared.tree.Text.{Text}
use Rattle.text.specs.declared.tree.Tree.{Tree}
use Rattle.word.specs.Words.{spelling, home_of}
use Rattle.text.specs.Data.{Stands, Each}
use Rattle.text.specs.Refusals.{refusal_of}

-- a form of the code and a form of the rules
abbrev pub FormIs : List Cell → Form → PureForm → Type 0
FormIs cs f g = (f.offset ≡ g.offset) × Stands cs f.datum g.datum

-- forms, in order
abbrev pub Forms : List Cell → List Form → List PureForm → Type 0
Forms cs = Each (FormIs cs)

-- a list or a quote that opens after so many values, and as nothing of it has been read
abbrev pub Opens : ℕ → Open → PureOpen → Type 0
Opens n (Open.List before) (bracket []) = before ≡ n
Opens n (Open.List before) (bracket (d ∷ ds)) = ⊥
Opens n (Open.List before) quoted = ⊥
Opens n Open.Quote (bracket ds) = ⊥
Opens n Open.Quote quoted = Unit {0}

-- the open lists and quotes, innermost first, with the values of all these lists and no other; the rules have a list's data newest first
abbrev pub Opened : List Cell → List Value → List Open → List PureOpen → Type 0
Opened cs [] [] [] = Unit {0}
Opened cs (v ∷ vs) [] [] = ⊥
Opened cs vs [] (q ∷ qs) = ⊥
Opened cs vs (Open.Quote ∷ os) [] = ⊥
Opened cs vs (Open.Quote ∷ os) (quoted ∷ qs) = Opened cs vs os qs
Opened cs vs (Open.Quote ∷ os) (bracket ds ∷ qs) = ⊥
Opened cs vs (Open.List before ∷ os) [] = ⊥
Opened cs vs (Open.List before ∷ os) (quoted ∷ qs) = ⊥
Opened cs vs (Open.List before ∷ os) (bracket ds ∷ qs) = (before ≤ length vs) × Each (Stands cs) (drop before vs) (reverse ds) × Opened cs (take before vs) os qs

-- a tree stands for what has been read
pub record Built (t : Tree) (p : Progress) : Type 0 where
  pub opened : Opened (vec_items t.cells) (vec_items t.values) (reverse (vec_items t.opened)) p.opened
  pub begun : t.begun ≡ p.begun
  pub forms : Forms (vec_items t.cells) (vec_items t.forms) (reverse p.forms)

-- the reading is refused so; want of memory says nothing of the text
abbrev pub RefusedAs : {A : Type 0} → Read A → Word → ReadFault → Type 0
RefusedAs o m (ReadFault.Refused f) = (c : Cause) × (at : ℕ) × (o ≡ refused c at) × (refusal_of f ≡ placed c (spelling m) at)
RefusedAs o m ReadFault.Memory = Unit {0}

-- the tree after one more byte, or the refusal
abbrev pub Went : Read Progress → Tree → Tree → Result (Unit {0}) ReadFault → Type 0
Went o x y (Ok _) = (p : Progress) × (o ≡ reads p) × Built y p × (y.home ≡ x.home)
Went o x y (Err f) = RefusedAs o x.home.«module» f

-- of a tree with its home, built to any progress, f says what one more byte or item makes
abbrev pub Steps : (Home → Progress → Read Progress) → Tree → Tree → Result (Unit {0}) ReadFault → Type 0
Steps f x y r = (p : Progress) → Built x p → Went (f (home_of x.home) p) x y r

-- the whole text
abbrev pub Finished : Read (List PureForm) → Word → Result Text ReadFault → Type 0
Finished o m (Ok t) = (fs : List PureForm) × (o ≡ reads fs) × Forms (vec_items t.cells) (vec_items t.forms) fs
Finished o m (Err f) = RefusedAs o m f

-- of a tree, built to any progress, f says what the whole text is
abbrev pub Ends : (Progress → Read (List PureForm)) → Tree → Result Text ReadFault → Type 0
Ends f t r = (p : Progress) → Built t p → Finished (f p) t.home.«module» r

-- a refusal has its place within so many bytes, or at their end
abbrev pub Within : ℕ → Result Text ReadFault → Type 0
Within n (Ok t) = Unit {0}
Within n (Err (ReadFault.Refused f)) = (at : ℕ) × (f.place ≡ Some at) × (at ≤ n)
Within n (Err ReadFault.Memory) = Unit {0}
