-- Worked keys: texts, a name that is called, and the whole answer, byte for byte. Assumes nothing.
use Rattle.std.specs.Prelude.{◌≡◌, ℕ, cond, List, [], ◌∷◌, Some, None, codes}
use Rattle.std.specs.Str.{bytes_eq}
use Rattle.rules.specs.declared.cause.Cause.{Cause}
use Rattle.rules.specs.Words.{Spelling}
use Rattle.rules.specs.Refusals.{Answer, answers, refuses, about, placed}
use Rattle.rules.specs.Walk.{Texts}
use Rattle.rules.specs.Build.{build, run}

-- a name, and the text that is saved under it
abbrev pub Saved : Type 0
Saved = Spelling × List ℕ

-- the texts of a list, and no others
abbrev pub holding : List Saved → Texts
holding [] w = None
holding (s ∷ more) w = cond (bytes_eq w s.0) (Some s.1) (holding more w)

-- a key to build or to run, and what that answers
pub data Key : Type 0 where
  built : List Saved → Spelling → Answer (List ℕ) → Key
  ran : List Saved → Spelling → Answer (List ℕ × ℕ) → Key

-- with 16 pages, and a buffer of 8,192 bytes for a build and of 4,096 for a run
abbrev pub Holds : Key → Type 0
Holds (built saved w a) = build (holding saved) 16 8192 w ≡ a
Holds (ran saved w a) = run (holding saved) 16 4096 w ≡ a

abbrev pub AllHold : List Key → Type 0
AllHold [] = Unit {0}
AllHold (k ∷ ks) = Holds k × AllHold ks

-- Two keys share a bank that counts while they are expanded. Each is expanded in a world of its own, so each counts from the start.
abbrev pub counting_from : List ℕ → List Saved
counting_from bank = (codes "bank", bank) ∷ (codes "p1", codes "(require bank) (print (next))") ∷ (codes "p2", codes "(require bank) (print (next))") ∷ []

abbrev pub counting : List Saved
counting = counting_from (codes "(for-syntax (define n 0)) (define-macro (next f) (do (set n (add n 1)) n))")

abbrev pub counting_from_ten : List Saved
counting_from_ten = counting_from (codes "(for-syntax (define n 10)) (define-macro (next f) (do (set n (add n 1)) n))")

abbrev pub prints_one : List ℕ
prints_one =
    codes "require shift\nbank 0\nlevel kind name params rows\n0 action - 0 2\nop text home base number\nprim print - - 1\nnumber - - - 1\n"

-- a macro's body stands one level up, where a plain require brings in no variable of level 0
abbrev pub plain_require : List Saved
plain_require = (codes "a", codes "(define k 0)") ∷ (codes "key", codes "(require a) (define-macro (m f) k)") ∷ []

abbrev pub shifted_require : List Saved
shifted_require = (codes "a", codes "(define k 0)") ∷ (codes "key", codes "(require a 1) (define-macro (m f) k)") ∷ []

-- a module required at both levels has two instances, each with a variable of its own
abbrev pub two_instances : List Saved
two_instances =
    (codes "a", codes "(define k 0) (define (up) (set k (add k 1)))") ∷ (codes "key", codes "(require a) (require a 1) (define-macro (m f) (up)) (print (m)) (print (up))") ∷ []

-- a word that a macro brings along means what it means at the macro's home
abbrev pub at_home : List Saved
at_home =
    (codes "base", codes "(define (twice v) (add v v))") ∷ (codes "c", codes "(require base) (define-macro (dbl f) (pair 'twice (tail f)))") ∷ (codes "key", codes "(require c) (define (twice v) 0) (print (dbl 4))") ∷ []

-- a module that requires itself
abbrev pub cycle : List Saved
cycle = (codes "a", codes "(require a)") ∷ []

-- every value but the empty list is a yes, 0 too
abbrev pub zero_is_yes : List Saved
zero_is_yes = (codes "key", codes "(print (if 0 7 8))") ∷ []

-- a sum that is no number of 32 bits fails when it runs, and a numeral that is none does not read
abbrev pub too_large_a_sum : List Saved
too_large_a_sum = (codes "key", codes "(print (add 2147483647 1))") ∷ []

abbrev pub too_large_a_numeral : List Saved
too_large_a_numeral = (codes "key", codes "(print 2147483648)") ∷ []

abbrev pub worked : List Key
worked =
    built counting (codes "p1") (answers prints_one)
    ∷ built counting (codes "p2") (answers prints_one)
    ∷ ran counting (codes "p1") (answers (codes "1\n", 2))
    ∷ ran counting (codes "p2") (answers (codes "1\n", 2))
    ∷ ran counting_from_ten (codes "p1") (answers (codes "11\n", 2))
    ∷ ran counting_from_ten (codes "p2") (answers (codes "11\n", 2))
    ∷ built plain_require (codes "key") (refuses (placed Cause.NoMeaning (codes "key") 12))
    ∷ built shifted_require (codes "key") (answers (codes "require shift\na 1\nlevel kind name params rows\n0 macro m 1 1\nop text home base number\nvariable k a 1 -\n"))
    ∷ ran two_instances (codes "key") (answers (codes "1\n1\n", 9))
    ∷ ran at_home (codes "key") (answers (codes "8\n", 6))
    ∷ built cycle (codes "a") (refuses (about Cause.RequireCycle (codes "a")))
    ∷ ran zero_is_yes (codes "key") (answers (codes "7\n", 4))
    ∷ built too_large_a_sum (codes "key") (answers (codes "require shift\nlevel kind name params rows\n0 action - 0 4\nop text home base number\nprim print - - 1\nprim add - - 2\nnumber - - - 2147483647\nnumber - - - 1\n"))
    ∷ ran too_large_a_sum (codes "key") (refuses (record { cause = Cause.NumberRange; working_for = Some (codes "key"); module_name = Some (codes "key"); place = Some 1 }))
    ∷ built too_large_a_numeral (codes "key") (refuses (placed Cause.BadItem (codes "key") 7))
    ∷ []

-- each worked key has the answer that stands beside it
abbrev pub WorkedKeys : Type 0
WorkedKeys = AllHold worked
