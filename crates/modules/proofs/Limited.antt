-- Trees are within the limits where their rows are.
use Rattle.std.proofs.Common.{◌≡◌, ℕ, ◌+◌, ◌≤◌, Bool, true, false, not, ◌&&◌, ◌||◌, eqb, leb, List, [], ◌∷◌, ◌++◌, length, sym, refl, ap, ◌∙◌, arith}
use Rattle.std.specs.List.{list_all}
use Rattle.std.proofs.lemmas.List.{length-append}
use Rattle.std.proofs.lemmas.List.Folds.{list_all-append}
use Rattle.std.proofs.lemmas.Bool.{and_parts, and_from, leb-true, le-leb}
use Rattle.rules.specs.Words.{is_word, arity_of}
use Rattle.rules.specs.Rows.{Expr, Exprs, number, empty, name, local, variable, set, if, bind, seq, call, prim, none, more, size, sizes, count, flat, flats}
use Rattle.rules.specs.Rows.{Kind, variable_of, procedure_of, macro_of, action, Definition, Require, Module}
use Rattle.rules.specs.Artefact.{rows_of}
use Rattle.rules.specs.Evaluate.{in_range}
use Rattle.rules.specs.Lookup.{title}
use Rattle.modules.specs.Limits.{none_alike, home_within, row_within, require_within, free_name, same_require, kind_within, definition_within, same_definition, WithinLimits}
use Rattle.modules.specs.Limited.{rows_within, all_within, required_in, requires_within, level_within, name_within, defined_in, definitions_within, rows_in, within_limits}
use Rattle.modules.proofs.Forests.{length-flat}

and_true : (a : Bool) → (a && true) ≡ a
and_true true = refl
and_true false = refl

and_assoc : (a b c : Bool) → (a && (b && c)) ≡ (a && b && c)
and_assoc true b c = refl
and_assoc false b c = refl

and_last : (a b c : Bool) → (a && b && c) ≡ (a && c && b)
and_last false b c = refl
and_last true true true = refl
and_last true true false = refl
and_last true false true = refl
and_last true false false = refl

and_apart : (a b c d : Bool) → ((a && b) && (c && d)) ≡ ((a && c) && (b && d))
and_apart false b c d = refl
and_apart true true c d = refl
and_apart true false true d = refl
and_apart true false false d = refl

not_or : (a b : Bool) → (not a && not b) ≡ not (a || b)
not_or true b = refl
not_or false b = refl

one_row : (e : Expr) → 1 ≤ size e
one_row (number z) = omega arith
one_row empty = omega arith
one_row (name w h) = omega arith
one_row (local i) = omega arith
one_row (variable w h) = omega arith
one_row (set w a) = omega arith
one_row (if a b c) = omega arith
one_row (bind a b) = omega arith
one_row (seq es) = omega arith
one_row (call w h es) = omega arith
one_row (prim p es) = omega arith

count_sizes : (es : Exprs) → count es ≤ sizes es
count_sizes none = omega arith
count_sizes (more e es) = omega (arith, one_row e, count_sizes es)

-- a `do` has fewer operands than rows, so its row's own bound on them holds within 128 rows
few_operands : (es : Exprs) (b : Bool) → 1 + sizes es ≤ 128 → (leb 1 (count es) && leb (count es) 127 && b) ≡ (leb 1 (count es) && b)
few_operands es b s =
    ap (λ t. t && b) (ap (λ t. leb 1 (count es) && t) (le-leb (count es) 127 (omega (arith, count_sizes es))) ∙ and_true (leb 1 (count es)))

-- the rows of a tree are within the limits where the tree is
mutual
  rows_alike : (e : Expr) → size e ≤ 128 → list_all row_within (flat e) ≡ rows_within e
  rows_alike (number z) s = and_true (in_range z)
  rows_alike empty s = refl
  rows_alike (name w h) s = and_true (is_word w && home_within h)
  rows_alike (local i) s = and_true (leb i 15)
  rows_alike (variable w h) s = and_true (is_word w && home_within h)
  rows_alike (set w a) s = ap (λ t. is_word w && t) (rows_alike a (omega arith))
  rows_alike (if a b c) s =
      list_all-append row_within (flat a) (flat b ++ flat c) ∙ ap (λ t. list_all row_within (flat a) && t) (list_all-append row_within (flat b) (flat c)) ∙ and_assoc (list_all row_within (flat a)) (list_all row_within (flat b)) (list_all row_within (flat c)) ∙ (λ i. rows_alike a (omega arith) i && rows_alike b (omega arith) i && rows_alike c (omega arith) i)
  rows_alike (bind a b) s = list_all-append row_within (flat a) (flat b) ∙ (λ i. rows_alike a (omega arith) i && rows_alike b (omega arith) i)
  rows_alike (seq es) s = few_operands es (list_all row_within (flats es)) s ∙ ap (λ t. leb 1 (count es) && t) (all_alike es (omega arith))
  rows_alike (call w h es) s = ap (λ t. is_word w && home_within h && leb (count es) 4 && t) (all_alike es (omega arith))
  rows_alike (prim p es) s = ap (λ t. eqb (count es) (arity_of p) && t) (all_alike es (omega arith))

  all_alike : (es : Exprs) → sizes es ≤ 128 → list_all row_within (flats es) ≡ all_within es
  all_alike none s = refl
  all_alike (more e es) s = list_all-append row_within (flat e) (flats es) ∙ (λ i. rows_alike e (omega arith) i && all_alike es (omega arith) i)

-- none of the others is like the first where it does not stand among them
required_alike : (r : Require) (qs : List Require) → list_all (λ q. not (same_require r q)) qs ≡ not (required_in r qs)
required_alike r [] = refl
required_alike r (q ∷ qs) = ap (λ t. not (same_require r q) && t) (required_alike r qs) ∙ not_or (same_require r q) (required_in r qs)

defined_alike : (d : Definition) (es : List Definition) → list_all (λ e. not (same_definition d e)) es ≡ not (defined_in d es)
defined_alike d [] = refl
defined_alike d (e ∷ es) = ap (λ t. not (same_definition d e) && t) (defined_alike d es) ∙ not_or (same_definition d e) (defined_in d es)

requires_alike : (rs : List Require) → (list_all require_within rs && none_alike same_require rs) ≡ requires_within rs
requires_alike [] = refl
requires_alike (r ∷ rs) =
    and_apart (require_within r) (list_all require_within rs) (list_all (λ q. not (same_require r q)) rs) (none_alike same_require rs) ∙ (λ i. require_within r && required_alike r rs i && requires_alike rs i)

kind_alike : (level : ℕ) (k : Kind) → kind_within level k ≡ (level_within level k && name_within (title k))
kind_alike level (variable_of w) = refl
kind_alike level (procedure_of w n) = and_last (leb level 3) (free_name w) (leb n 4)
kind_alike level (macro_of w) = refl
kind_alike level action = sym (and_true (leb level 3))

rows_many : (ds : List Definition) → length (rows_of ds) ≡ rows_in ds
rows_many [] = refl
rows_many (d ∷ ds) = length-append (flat d.body) (rows_of ds) ∙ (λ i. length-flat d.body i + rows_many ds i)

-- three tests of the first and of the rest, each in its own order
three_apart : (a b c x y z : Bool) → (a && x && (b && y) && (c && z)) ≡ (a && c && b && (x && y && z))
three_apart a b c x y z =
    ap (λ t. t && (c && z)) (and_apart a x b y) ∙ and_apart (a && b) (x && y) c z ∙ ap (λ t. t && (x && y && z)) (and_last a b c)

definitions_alike : (ds : List Definition) → rows_in ds ≤ 128 → (list_all definition_within ds && none_alike same_definition ds && list_all row_within (rows_of ds)) ≡ definitions_within ds
definitions_alike [] s = refl
definitions_alike (d ∷ ds) s =
    ap (λ t. list_all definition_within (d ∷ ds) && none_alike same_definition (d ∷ ds) && t) (list_all-append row_within (flat d.body) (rows_of ds)) ∙ three_apart (definition_within d) (list_all (λ e. not (same_definition d e)) ds) (list_all row_within (flat d.body)) (list_all definition_within ds) (none_alike same_definition ds) (list_all row_within (rows_of ds)) ∙ (λ i. kind_alike d.level d.kind i && rows_alike d.body (omega arith) i && defined_alike d ds i && definitions_alike ds (omega arith) i)

pub by_trees : (m : Module) → within_limits m ≡ true → WithinLimits m
by_trees m t =
    let rs = m.requires in
    let ds = m.definitions in
    let p = and_parts (leb (length rs) 8 && requires_within rs && leb (length ds) 32 && definitions_within ds) (leb (rows_in ds) 128) t in
    let q = and_parts (leb (length rs) 8 && requires_within rs && leb (length ds) 32) (definitions_within ds) p.0 in
    let u = and_parts (leb (length rs) 8 && requires_within rs) (leb (length ds) 32) q.0 in
    let v = and_parts (leb (length rs) 8) (requires_within rs) u.0 in
    let few = leb-true (rows_in ds) 128 p.1 in
    let requires = and_parts (list_all require_within rs) (none_alike same_require rs) (requires_alike rs ∙ v.1) in
    let definitions = and_parts (list_all definition_within ds && none_alike same_definition ds) (list_all row_within (rows_of ds)) (definitions_alike ds few ∙ q.1) in
    let heads = and_parts (list_all definition_within ds) (none_alike same_definition ds) definitions.0 in
    record {
      few_requires = leb-true (length rs) 8 v.0;
      requires = requires.0;
      requires_differ = requires.1;
      few_definitions = leb-true (length ds) 32 u.1;
      definitions = heads.0;
      definitions_differ = heads.1;
      few_rows = omega (arith, few, rows_many ds);
      rows = definitions.1;
    }

pub by_rows : (m : Module) → WithinLimits m → within_limits m ≡ true
by_rows m limits =
    let rs = m.requires in
    let ds = m.definitions in
    let few : rows_in ds ≤ 128 = omega (arith, limits.few_rows, rows_many ds) in
    let requires = sym (requires_alike rs) ∙ and_from (list_all require_within rs) (none_alike same_require rs) limits.requires limits.requires_differ in
    let heads = and_from (list_all definition_within ds) (none_alike same_definition ds) limits.definitions limits.definitions_differ in
    let definitions = sym (definitions_alike ds few) ∙ and_from (list_all definition_within ds && none_alike same_definition ds) (list_all row_within (rows_of ds)) heads limits.rows in
    and_from _ _ (and_from _ _ (and_from _ _ (and_from _ _ (le-leb (length rs) 8 limits.few_requires) requires) (le-leb (length ds) 32 limits.few_definitions)) definitions) (le-leb (rows_in ds) 128 few)
