-- What a call answers, or why it is refused. Assumes nothing.
use Rattle.std.specs.Prelude.{ℕ, Some, None, Option}
use Rattle.rules.specs.declared.cause.Cause.{Cause}
use Rattle.rules.specs.Words.{Spelling}

-- The cause, the module for which rows ran, the module at fault, and the place in it: an offset or a row. A part that does not apply is absent.
pub record Refusal : Type 0 where
  pub cause : Cause
  pub working_for : Option Spelling
  pub module_name : Option Spelling
  pub place : Option ℕ

-- nothing besides the cause
abbrev pub bare : Cause → Refusal
bare c = record { cause = c; working_for = None; module_name = None; place = None }

-- with the module
abbrev pub about : Cause → Spelling → Refusal
about c m = record { cause = c; working_for = None; module_name = Some m; place = None }

-- with the module and an offset in its text
abbrev pub placed : Cause → Spelling → ℕ → Refusal
placed c m at = record { cause = c; working_for = None; module_name = Some m; place = Some at }

pub data Answer (A : Type 0) : Type 0 where
  answers : A → Answer A
  refuses : Refusal → Answer A

abbrev pub ◌>>=◌ : {A B : Type 0} → Answer A → (A → Answer B) → Answer B
◌>>=◌ (answers a) f = f a
◌>>=◌ (refuses r) f = refuses r
