-- The reach of a name over the texts, and that an answer depends on the texts of the reach alone. Assumes nothing.
use Rattle.std.specs.Prelude.{◌≡◌, ℕ, List, ◌∷◌}
use Rattle.rules.specs.Words.{Spelling}
use Rattle.rules.specs.Tops.{Asked}
use Rattle.rules.specs.Refusals.{answers}
use Rattle.rules.specs.Walk.{Texts, Opened, admitted, open_text}
use Rattle.rules.specs.Build.{build, run}

-- the modules that a list of requires names
pub data Asks : List Asked → Spelling → Type 0 where
  first : {a : Asked} {rest : List Asked} → Asks (a ∷ rest) a.require.from
  later : {a : Asked} {rest : List Asked} {v : Spelling} → Asks rest v → Asks (a ∷ rest) v

-- the name itself, and for each name in the reach whose text opens, the modules that it requires
pub data Reached (texts : Texts) (root : Spelling) : Spelling → Type 0 where
  root_itself : Reached texts root root
  required : {w v : Spelling} {o : Opened} → Reached texts root w → open_text w (admitted (texts w)) ≡ answers o → Asks o.asked v → Reached texts root v

-- Texts that agree on a name's reach build it and run it alike, whatever else they hold. Two texts that are too long agree, and so do one that is too long and none.
abbrev pub AnswersByReach : Type 0
AnswersByReach =
    (t u : Texts) (root : Spelling) → ((v : Spelling) → Reached t root v → admitted (t v) ≡ admitted (u v)) → (pages room : ℕ) → (build t pages room root ≡ build u pages room root) × (run t pages room root ≡ run u pages room root)
