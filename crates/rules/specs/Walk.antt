-- The walk over a reach: each text is read, and its requires are followed. Assumes nothing.
use Rattle.std.specs.Prelude.{ℕ, zero, suc, Bool, false, cond, ◌&&◌, ◌||◌, List, [], ◌∷◌, ◌++◌, length, pos, negsuc, Some, None, codes, Option, ◌==◌, nat_le}
use Rattle.std.specs.Str.{bytes_eq}
use Rattle.rules.specs.declared.cause.Cause.{Cause}
use Rattle.rules.specs.Words.{Spelling, Datum, number, word, empty, pair, among, text_home}
use Rattle.rules.specs.Rows.{Require}
use Rattle.rules.specs.Reading.{Form, Read, reads, refused, read}
use Rattle.rules.specs.Tops.{Asked}
use Rattle.rules.specs.Refusals.{Answer, answers, refuses, about, placed, ◌>>=◌}

-- the texts by name
abbrev pub Texts : Type 0
Texts = Spelling → Option (List ℕ)

-- a text of more than 1,024 bytes counts as none
abbrev pub admitted : Option (List ℕ) → Option (List ℕ)
admitted None = None
admitted (Some bytes) = cond (nat_le (length bytes) 1024) (Some bytes) None

-- whether a form is a require by its head, and what it asks for
pub data Front : Type 0 where
  other : Front
  misshapen : Front
  asks : Require → Front

-- a shift is 0 or 1
abbrev pub shift_of : Spelling → Datum → Front
shift_of w (number (pos zero)) = asks (record { from = w; shift = 0 })
shift_of w (number (pos (suc zero))) = asks (record { from = w; shift = 1 })
shift_of w (number (pos (suc (suc n)))) = misshapen
shift_of w (number (negsuc n)) = misshapen
shift_of w (word v h) = misshapen
shift_of w empty = misshapen
shift_of w (pair a b) = misshapen

-- a missing shift is 0
abbrev pub from_shift : Spelling → Datum → Front
from_shift w empty = asks (record { from = w; shift = 0 })
from_shift w (pair s empty) = shift_of w s
from_shift w (pair s (number n)) = misshapen
from_shift w (pair s (word v h)) = misshapen
from_shift w (pair s (pair a b)) = misshapen
from_shift w (number n) = misshapen
from_shift w (word v h) = misshapen

abbrev pub operands : Datum → Front
operands (pair (word w h) rest) = from_shift w rest
operands (pair (number n) rest) = misshapen
operands (pair empty rest) = misshapen
operands (pair (pair a b) rest) = misshapen
operands (number n) = misshapen
operands (word w h) = misshapen
operands empty = misshapen

abbrev pub front : Datum → Front
front (pair (word w h) rest) = cond (bytes_eq w (codes "require")) (operands rest) other
front (pair (number n) rest) = other
front (pair empty rest) = other
front (pair (pair a b) rest) = other
front (number n) = other
front (word w h) = other
front empty = other

abbrev pub already : Require → List Asked → Bool
already r [] = false
already r (a ∷ rest) = (bytes_eq r.from a.require.from && r.shift == a.require.shift) || already r rest

-- a text that reads, cut after its requires
pub record Opened : Type 0 where
  pub asked : List Asked
  pub forms : List Form

-- a module has at most 8 requires; a repeated one counts once
abbrev pub one_more_asked : Spelling → List Asked → Form → Require → (List Asked → Answer Opened) → Answer Opened
one_more_asked self got f r go =
    cond (already r got) (go got)
    (cond (nat_le 8 (length got)) (refuses (placed Cause.LimitPassed self f.offset))
    (go (got ++ (record { offset = f.offset; require = r } ∷ []))))

abbrev pub cut_at : Spelling → List Asked → Form → List Form → Front → (List Asked → Answer Opened) → Answer Opened
cut_at self got f fs other go = answers (record { asked = got; forms = f ∷ fs })
cut_at self got f fs misshapen go = refuses (placed Cause.WrongShape self f.offset)
cut_at self got f fs (asks r) go = one_more_asked self got f r go

-- requires stand before all other forms
abbrev pub cut : Spelling → List Form → List Asked → Answer Opened
cut self [] got = answers (record { asked = got; forms = [] })
cut self (f ∷ fs) got = cut_at self got f fs (front f.datum) (cut self fs)

abbrev pub open_read : Spelling → Read (List Form) → Answer Opened
open_read w (refused c at) = refuses (placed c w at)
open_read w (reads fs) = cut w fs []

abbrev pub open_text : Spelling → Option (List ℕ) → Answer Opened
open_text w None = refuses (about Cause.NoText w)
open_text w (Some bytes) = open_read w (read (text_home w) bytes)

-- the names met so far, and the modules followed to their end, required ones first
pub record Walked : Type 0 where
  pub met : List Spelling
  pub ended : List (Spelling × Opened)

abbrev pub Follows : Type 0
Follows = Spelling → Walked → Answer Walked

abbrev pub follow : Follows → List Asked → Walked → Answer Walked
follow go [] k = answers k
follow go (a ∷ rest) k = do
  j ← go a.require.from k
  follow go rest j

-- a module is met: its name is on the list from now on
abbrev pub entered : Spelling → Walked → Walked
entered w k = record { met = k.met ++ (w ∷ []); ended = k.ended }

-- all that it requires has been followed
abbrev pub done_with : Spelling → Opened → Walked → Answer Walked
done_with w o k = answers (record { met = k.met; ended = k.ended ++ ((w, o) ∷ []) })

abbrev pub go_through : Follows → Spelling → Walked → Opened → Answer Walked
go_through go w k o = do
  j ← follow go o.asked (entered w k)
  done_with w o j

abbrev pub open_and_go : Follows → Option (List ℕ) → Spelling → Walked → Answer Walked
open_and_go go text w k = do
  o ← open_text w text
  go_through go w k o

-- on first meeting a module: 16 modules at most, a page for each, its text, and what it requires
abbrev pub meet : Follows → Option (List ℕ) → ℕ → Spelling → Walked → Answer Walked
meet go text pages w k =
    cond (nat_le 16 (length k.met)) (refuses (about Cause.TooManyModules w))
    (cond (nat_le pages (length k.met)) (refuses (about Cause.TooFewPages w))
    (open_and_go go text w k))

abbrev pub ended_names : List (Spelling × Opened) → List Spelling
ended_names [] = []
ended_names (e ∷ es) = e.0 ∷ ended_names es

-- a module that has been followed is done with, and one that is still being followed requires itself
unfoldable pub walk : Texts → ℕ → ℕ → Follows
walk texts pages zero w k = refuses (about Cause.TooManyModules w)
walk texts pages (suc left) w k =
    cond (among w (ended_names k.ended)) (answers k)
    (cond (among w k.met) (refuses (about Cause.RequireCycle w))
    (meet (walk texts pages left) (admitted (texts w)) pages w k))

abbrev pub nothing_met : Walked
nothing_met = record { met = []; ended = [] }

-- the modules of a reach, required ones first; no path meets a 17th module
abbrev pub walk_from : Texts → ℕ → Spelling → Answer Walked
walk_from texts pages w = walk texts pages 17 w nothing_met
