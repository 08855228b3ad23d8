-- What a word means: the tables of modules, and the orders of instances. Assumes nothing.
use Rattle.std.specs.Prelude.{ℕ, zero, suc, ◌+◌, ◌-◌, Bool, false, cond, ◌&&◌, ◌||◌, List, [], ◌∷◌, ◌++◌, Some, None, Option, ◌==◌, nat_le}
use Rattle.std.specs.Str.{bytes_eq}
use Rattle.rules.specs.Words.{Spelling, Home, same_home, text_home}
use Rattle.rules.specs.Rows.{Kind, variable_of, procedure_of, macro_of, action, Definition, Require, Modules, find, definitions_of, requires_of}

-- what a module knows of a definition of its own once that has started
pub record Header : Type 0 where
  pub level : ℕ
  pub kind : Kind

abbrev pub header : Definition → Header
header d = record { level = d.level; kind = d.kind }

abbrev pub headers : List Definition → List Header
headers [] = []
headers (d ∷ ds) = header d ∷ headers ds

abbrev pub headers_in : Modules → Spelling → List Header
headers_in ms m = headers (definitions_of (find ms m))

abbrev pub requires_in : Modules → Spelling → List Require
requires_in ms m = requires_of (find ms m)

abbrev pub names : Kind → Spelling → Bool
names (variable_of v) w = bytes_eq v w
names (procedure_of v n) w = bytes_eq v w
names (macro_of v) w = bytes_eq v w
names action w = false

-- what a module itself makes of a name at a level
abbrev pub makes : List Header → Spelling → ℕ → Option Kind
makes [] w level = None
makes (h ∷ hs) w level = cond (h.level == level && names h.kind w) (Some h.kind) (makes hs w level)

-- a name's meaning, and the instance that it belongs to
pub record Binding : Type 0 where
  pub kind : Kind
  pub owner : Home

abbrev pub bound_to : Home → Option Kind → Option Binding → Option Binding
bound_to h None other = other
bound_to h (Some k) other = Some (record { kind = k; owner = h })

-- what the requires of a module bring in at a level, for an instance of it with this base
abbrev pub brought : Modules → ℕ → List Require → Spelling → ℕ → Option Binding
brought ms base [] w level = None
brought ms base (r ∷ rs) w level =
    cond (nat_le r.shift level) (bound_to (record { module_name = r.from; base = base + r.shift }) (makes (headers_in ms r.from) w (level - r.shift)) (brought ms base rs w level)) (brought ms base rs w level)

-- a module's table at a level: its own definitions of the level, and what its requires bring in
abbrev pub table : Modules → Home → List Header → List Require → Spelling → ℕ → Option Binding
table ms h hs rs w level = bound_to h (makes hs w level) (brought ms h.base rs w level)

-- the module under expansion: its name, its requires, and the modules that it reaches
pub record Setting : Type 0 where
  pub self : Spelling
  pub requires : List Require
  pub modules : Modules

abbrev pub own : Setting → Home
own s = text_home s.self

-- a home's table; of the module under expansion the definitions known so far
abbrev pub home_table : Setting → List Header → Home → Spelling → ℕ → Option Binding
home_table s known h w level =
    cond (bytes_eq h.module_name s.self) (table s.modules h known s.requires w level) (table s.modules h (headers_in s.modules h.module_name) (requires_in s.modules h.module_name) w level)

-- a word with home (H, c), looked up at phase p, is sought in H's table at level p - c
abbrev pub look_up : Setting → List Header → Spelling → Home → ℕ → Option Binding
look_up s known w h phase = cond (nat_le h.base phase) (home_table s known h w (phase - h.base)) None

-- Whether two requires bring in one name at one level. What would stand above level 3 is in no table.
abbrev pub brings : List Header → ℕ → Spelling → ℕ → Bool
brings [] shift w level = false
brings (h ∷ hs) shift w level = (h.level + shift == level && names h.kind w) || brings hs shift w level

abbrev pub title : Kind → Option Spelling
title (variable_of v) = Some v
title (procedure_of v n) = Some v
title (macro_of v) = Some v
title action = None

abbrev pub clash_at : List Header → ℕ → Option Spelling → ℕ → Bool
clash_at hs shift None level = false
clash_at hs shift (Some w) level = nat_le level 3 && brings hs shift w level

abbrev pub clash : List Header → ℕ → List Header → ℕ → Bool
clash [] s gs t = false
clash (h ∷ hs) s gs t = clash_at gs t (title h.kind) (h.level + s) || clash hs s gs t

abbrev pub clashes : Modules → List Require → Require → Bool
clashes ms [] r = false
clashes ms (q ∷ qs) r = clash (headers_in ms q.from) q.shift (headers_in ms r.from) r.shift || clashes ms qs r

-- the instances that one reaches, required ones first, in require order, each once
abbrev pub held : Home → List Home → Bool
held h [] = false
held h (g ∷ gs) = same_home h g || held h gs

abbrev pub along : (Home → List Home → List Home) → ℕ → List Require → List Home → List Home
along go base [] done = done
along go base (r ∷ rs) done = along go base rs (go (record { module_name = r.from; base = base + r.shift }) done)

abbrev pub instances : (Spelling → List Require) → ℕ → Home → List Home → List Home
instances rq zero h seen = seen
instances rq (suc left) h seen = cond (held h seen) seen (along (instances rq left) h.base (rq h.module_name) seen ++ (h ∷ []))

-- a reach has at most 16 modules, so no path in it is longer
abbrev pub reached_instances : Modules → Home → List Home
reached_instances ms h = instances (requires_in ms) 17 h []
