-- Words, homes, the data that texts and macros are made of, and the words with a meaning of their own. Assumes nothing.
use Rattle.std.specs.Prelude.{ℕ, Bool, true, false, cond, ◌&&◌, ◌||◌, List, [], ◌∷◌, length, ℤ, is_some, Some, None, codes, Option, ◌==◌, nat_le}
use Rattle.std.specs.Str.{bytes_eq}
use Rattle.rules.specs.declared.primitive.Primitive.{Primitive}

-- the bytes of a word, or of any other item
abbrev pub Spelling : Type 0
Spelling = List ℕ

abbrev pub letter : ℕ → Bool
letter b = nat_le 97 b && nat_le b 122

abbrev pub digit : ℕ → Bool
digit b = nat_le 48 b && nat_le b 57

-- the bytes that words and numbers are made of
abbrev pub item_byte : ℕ → Bool
item_byte b = letter b || digit b || b == 45

abbrev pub item_bytes : Spelling → Bool
item_bytes [] = true
item_bytes (b ∷ bs) = item_byte b && item_bytes bs

-- a word: 1 to 12 bytes, of which the first is a letter
abbrev pub is_word : Spelling → Bool
is_word [] = false
is_word (b ∷ bs) = letter b && item_bytes bs && nat_le (length bs) 11

abbrev pub among : Spelling → List Spelling → Bool
among w [] = false
among w (v ∷ vs) = bytes_eq w v || among w vs

-- An instance: a module, and by how many phases it is moved. It is also where a word was read: its home.
pub record Home : Type 0 where
  pub module_name : Spelling
  pub base : ℕ

abbrev pub same_home : Home → Home → Bool
same_home a b = bytes_eq a.module_name b.module_name && a.base == b.base

-- where the words of a module's text are at home
abbrev pub text_home : Spelling → Home
text_home m = record { module_name = m; base = 0 }

pub data Datum : Type 0 where
  number : ℤ → Datum
  word : Spelling → Home → Datum
  empty : Datum
  pair : Datum → Datum → Datum

abbrev pub list_of : List Datum → Datum
list_of [] = empty
list_of (d ∷ ds) = pair d (list_of ds)

abbrev pub prim_spelling : Primitive → Spelling
prim_spelling Primitive.Add = codes "add"
prim_spelling Primitive.Sub = codes "sub"
prim_spelling Primitive.Mul = codes "mul"
prim_spelling Primitive.Less = codes "less"
prim_spelling Primitive.Same = codes "same"
prim_spelling Primitive.Pair = codes "pair"
prim_spelling Primitive.Head = codes "head"
prim_spelling Primitive.Tail = codes "tail"
prim_spelling Primitive.IsPair = codes "is-pair"
prim_spelling Primitive.IsNumber = codes "is-number"
prim_spelling Primitive.IsName = codes "is-name"
prim_spelling Primitive.Print = codes "print"

-- how many operands a primitive takes
abbrev pub arity_of : Primitive → ℕ
arity_of Primitive.Add = 2
arity_of Primitive.Sub = 2
arity_of Primitive.Mul = 2
arity_of Primitive.Less = 2
arity_of Primitive.Same = 2
arity_of Primitive.Pair = 2
arity_of Primitive.Head = 1
arity_of Primitive.Tail = 1
arity_of Primitive.IsPair = 1
arity_of Primitive.IsNumber = 1
arity_of Primitive.IsName = 1
arity_of Primitive.Print = 1

abbrev pub prims : List Primitive
prims =
    Primitive.Add ∷ Primitive.Sub ∷ Primitive.Mul ∷ Primitive.Less ∷ Primitive.Same ∷ Primitive.Pair ∷ Primitive.Head ∷ Primitive.Tail ∷ Primitive.IsPair ∷ Primitive.IsNumber ∷ Primitive.IsName ∷ Primitive.Print ∷ []

abbrev pub named_among : Spelling → List Primitive → Option Primitive
named_among w [] = None
named_among w (p ∷ ps) = cond (bytes_eq w (prim_spelling p)) (Some p) (named_among w ps)

abbrev pub prim_named : Spelling → Option Primitive
prim_named w = named_among w prims

abbrev pub core_words : List Spelling
core_words =
    codes "require" ∷ codes "define" ∷ codes "define-macro" ∷ codes "for-syntax" ∷ codes "quote" ∷ codes "if" ∷ codes "set" ∷ codes "do" ∷ codes "let" ∷ []

-- reserved words are told by spelling alone
abbrev pub reserved : Spelling → Bool
reserved w = among w core_words || is_some (prim_named w)
