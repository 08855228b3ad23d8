-- What words and homes of the code stand for. Assumes nothing.
use Rattle.std.specs.Prelude.{◌≡◌, ℕ, min, Bool, true, ◌&&◌, cond, List, [], take, IsUtf8, Some, None, Option}
use Rattle.std.specs.Str.{bytes_eq}
use Rattle.rules.specs.Words.{is_word, same_home}
use Rattle.rules.specs.Words.{Home as PureHome}
use Rattle.word.specs.declared.Word.{Word}
use Rattle.word.specs.declared.home.Home.{Home}
use Rattle.word.specs.declared.name.Name.{Name}

-- every value of the type means some bytes
abbrev pub spelling : Word → List ℕ
spelling w = take (min w.len 12) w.bytes

abbrev pub home_of : Home → PureHome
home_of h = record { module_name = spelling h.module; base = h.base }

abbrev pub same_spelling : Word → Word → Bool
same_spelling a b = bytes_eq (spelling a) (spelling b)

abbrev pub same_instance : Home → Home → Bool
same_instance a b = same_home (home_of a) (home_of b)

abbrev pub same_name : Name → Name → Bool
same_name a b = same_spelling a.word b.word && same_instance a.home b.home

-- the bytes as text: where they are a word or any other text they are the text, and else there is none
abbrev pub Shown : List ℕ → List ℕ → Type 0
Shown bytes text = (IsUtf8 bytes → text ≡ bytes) × (is_word bytes ≡ true → text ≡ bytes) × ((IsUtf8 bytes → ⊥) → text ≡ [])

-- what is printed of a word; of other bytes nothing is said
abbrev pub printed : List ℕ → Option (List ℕ)
printed bytes = cond (is_word bytes) (Some bytes) None
