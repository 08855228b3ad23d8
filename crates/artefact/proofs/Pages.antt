-- How long an artefact can be.
use Rattle.std.proofs.Common.{◌≡◌, ℕ, ◌+◌, ◌*◌, ◌<◌, ◌≤◌, true, ◌&&◌, leb, List, [], ◌∷◌, map, length, ℤ, pos, negsuc, codes, decimal, sym, ap, subst, mul-suc, arith}
use Rattle.std.specs.Fmt.{signed_decimal}
use Rattle.std.specs.List.{flat_map, AllByRecursion}
use Rattle.std.proofs.lemmas.Fmt.{length-decimal-le, length_signed_le}
use Rattle.std.proofs.ByRecursion.{All-weaker}
use Rattle.std.proofs.lemmas.List.{length-append, length-map}
use Rattle.std.proofs.lemmas.Bool.{and_parts, leb-true, ltb-true, eqb-true}
use Rattle.rules.specs.declared.primitive.Primitive.{Primitive}
use Rattle.rules.specs.Words.{Spelling, Home, letter, item_bytes, is_word, prim_spelling, arity_of}
use Rattle.rules.specs.Evaluate.{in_range}
use Rattle.rules.specs.Rows.{Row, Require, Module, number_row, empty_row, name_row, local_row, variable_row, set_row, if_row, let_row, do_row, call_row, prim_row}
use Rattle.rules.specs.Rows.{Kind, variable_of, procedure_of, macro_of, action}
use Rattle.rules.specs.Artefact.{unused, row_line, rows_of, artefact, kind_word, kind_name, parameters}
use Rattle.modules.specs.declared.module.Module.{Module as CodeModule}
use Rattle.modules.specs.Says.{Says}
use Rattle.modules.specs.Limits.{free_name, home_within, row_within, require_within, kind_within, WithinLimits}
use Rattle.modules.specs.Whole.{Heading, HeadingWithin, heading}
use Rattle.artefact.specs.Lines.{require_line, heading_line, written}
use Rattle.artefact.specs.Tables.{Wrote}
use Rattle.artefact.specs.Heads.{kind_parts, heading_five, free_word}
use Rattle.artefact.specs.Rows.{row_five, row_line_is, named_parts, arity_small}
use Rattle.artefact.specs.Entries.{require_parts}
use Rattle.artefact.specs.LinesLemmas.{Five, fields, line_of}
use Rattle.artefact.proofs.Artefacts.{tables, artefact_is, all_every, headings_within}

word_short : (w : Spelling) → is_word w ≡ true → length w ≤ 12
word_short [] h = omega arith
word_short (b ∷ bs) h = omega (arith, leb-true (length bs) 11 (and_parts (letter b && item_bytes bs) (leb (length bs) 11) h).1)

line_long : (f : Five) → length (line_of f) ≡ length f.a + length f.b + length f.c + length f.d + length f.e + 5
line_long f = simp length-append (omega arith)

named_short : (op w : Spelling) (h : Home) (n : Spelling) → length op ≤ 8 → length n ≤ 1 → (is_word w && home_within h) ≡ true → length (line_of (fields op w h.module_name (decimal h.base) n)) ≤ 40
named_short op w h n l m t =
    let u = named_parts w h t in
    omega (arith, line_long (fields op w h.module_name (decimal h.base) n), word_short w u.0, word_short h.module_name u.1, length-decimal-le 2 h.base (omega arith) (omega (arith, u.2)) (omega (arith, u.2)))

bare_short : (op n : Spelling) → length op ≤ 8 → length n ≤ 11 → length (line_of (fields op unused unused unused n)) ≤ 40
bare_short op n l m = omega (arith, line_long (fields op unused unused unused n))

primitive_short : (p : Primitive) → length (prim_spelling p) ≤ 9
primitive_short Primitive.Add = omega arith
primitive_short Primitive.Sub = omega arith
primitive_short Primitive.Mul = omega arith
primitive_short Primitive.Less = omega arith
primitive_short Primitive.Same = omega arith
primitive_short Primitive.Pair = omega arith
primitive_short Primitive.Head = omega arith
primitive_short Primitive.Tail = omega arith
primitive_short Primitive.IsPair = omega arith
primitive_short Primitive.IsNumber = omega arith
primitive_short Primitive.IsName = omega arith
primitive_short Primitive.Print = omega arith

signed_short : (z : ℤ) → in_range z ≡ true → length (signed_decimal z) ≤ 11
signed_short (pos n) r = let l = ltb-true n 2147483648 r in length_signed_le 10 (pos n) (omega arith) (omega arith)
signed_short (negsuc n) r = let l = ltb-true n 2147483648 r in length_signed_le 10 (negsuc n) (omega arith) (omega arith)

row_short : (q : Row) → row_within q ≡ true → length (line_of (row_five q)) ≤ 40
row_short (number_row z) t = bare_short (codes "number") (signed_decimal z) (omega arith) (signed_short z t)
row_short empty_row t = omega arith
row_short (name_row w h) t = named_short (codes "name") w h unused (omega arith) (omega arith) t
row_short (local_row i) t = let l = leb-true i 15 t in bare_short (codes "local") (decimal i) (omega arith) (omega (arith, length-decimal-le 2 i (omega arith) (omega arith) (omega arith)))
row_short (variable_row w h) t = named_short (codes "variable") w h unused (omega arith) (omega arith) t
row_short (set_row w) t = omega (arith, line_long (row_five (set_row w)), word_short w t)
row_short if_row t = omega arith
row_short let_row t = omega arith
row_short (do_row n) t =
    let l = leb-true n 127 (and_parts (leb 1 n) (leb n 127) t).1 in
    bare_short (codes "do") (decimal n) (omega arith) (omega (arith, length-decimal-le 3 n (omega arith) (omega arith) (omega arith)))
row_short (call_row w h n) t =
    let u = and_parts (is_word w && home_within h) (leb n 4) t in
    let l = leb-true n 4 u.1 in
    named_short (codes "call") w h (decimal n) (omega arith) (length-decimal-le 1 n (omega arith) (omega arith) (omega arith)) u.0
row_short (prim_row p n) t =
    let l : n ≤ 2 = omega (arith, eqb-true n (arity_of p) t, arity_small p) in
    omega (arith, line_long (row_five (prim_row p n)), primitive_short p, length-decimal-le 1 n (omega arith) (omega arith) (omega arith))

kind_short : (level : ℕ) (k : Kind) → kind_within level k ≡ true → (length (kind_word k) ≤ 9) × (length (kind_name k) ≤ 12)
kind_short level (variable_of w) t = (omega arith, word_short w (free_word w (and_parts (leb level 3) (free_name w) t).1))
kind_short level (procedure_of w n) t =
    (omega arith, word_short w (free_word w (and_parts (leb level 3) (free_name w) (and_parts (leb level 3 && free_name w) (leb n 4) t).0).1))
kind_short level (macro_of w) t = (omega arith, word_short w (free_word w (and_parts (leb level 2) (free_name w) t).1))
kind_short level action t = (omega arith, omega arith)

heading_short : (h : Heading) → HeadingWithin h → length (heading_line h) ≤ 31
heading_short h t =
    let p = kind_parts h.level h.kind t.kind in
    let k = kind_short h.level h.kind t.kind in
    let level = length-decimal-le 1 h.level (omega arith) (omega (arith, p.level_few)) (omega (arith, p.level_few)) in
    let params = length-decimal-le 1 (parameters h.kind) (omega arith) (omega (arith, p.params_few)) (omega (arith, p.params_few)) in
    let rows = length-decimal-le 3 h.rows (omega arith) (omega (arith, t.rows)) (omega (arith, t.rows)) in
    omega (arith, line_long (heading_five h), k.0, k.1, level, params, rows)

require_short : (q : Require) → require_within q ≡ true → length (require_line q) ≤ 15
require_short q t =
    let u = require_parts q t in
    let shift = length-decimal-le 1 q.shift (omega arith) (omega (arith, u.1)) (omega (arith, u.1)) in
    simp length-append (omega (arith, word_short q.from u.0, shift))

joined_short : {Q : Type 0} (line : Q → List ℕ) (n : ℕ) (qs : List Q) → AllByRecursion (λ q. length (line q) ≤ n) qs → length (flat_map line qs) ≤ n * length qs
joined_short line n [] a = omega arith
joined_short line n (q ∷ qs) a =
    omega (arith, length-append (line q) (flat_map line qs), a.0, joined_short line n qs a.1, mul-suc n (length qs))

tables_long : (a b c : List ℕ) → length (tables a b c) ≡ 67 + length a + length b + length c
tables_long a b c = simp length-append (omega arith)

-- a page has room for the bytes of every module that keeps the limits
pub artefact_short : (p : Module) → WithinLimits p → length (artefact p) ≤ 8192
artefact_short p t =
    let requires = joined_short require_line 15 p.requires (All-weaker (λ q. require_within q ≡ true) (λ q. length (require_line q) ≤ 15) require_short p.requires (all_every require_within p.requires t.requires)) in
    let hs = map heading p.definitions in
    let headings = joined_short heading_line 31 hs (All-weaker HeadingWithin (λ h. length (heading_line h) ≤ 31) heading_short hs (headings_within p.definitions t.definitions t.few_rows)) in
    let short : (q : Row) → row_within q ≡ true → length (row_line q) ≤ 40 = λ q w. omega (arith, ap length (row_line_is q), row_short q w) in
    let rows = joined_short row_line 40 (rows_of p.definitions) (All-weaker (λ q. row_within q ≡ true) (λ q. length (row_line q) ≤ 40) short (rows_of p.definitions) (all_every row_within (rows_of p.definitions) t.rows)) in
    omega (arith, ap length (artefact_is p), tables_long (flat_map require_line p.requires) (flat_map heading_line hs) (flat_map row_line (rows_of p.definitions)), requires, headings, rows, t.few_requires, t.few_definitions, t.few_rows, length-map p.definitions heading)

-- where what is written of a module does not fit, it is longer, and the room is no page
module _ (m : CodeModule) (bytes : List ℕ) (room : ℕ) (short : room < length bytes) (w : Wrote m bytes) where
  pub too_long : room < length (written m)
  too_long = subst (λ k. room < length k) w.as_is short

  pub no_page : (p : Module) → Says m p → WithinLimits p → 8192 ≤ room → ⊥
  no_page p says limits page =
      let fits : length bytes ≤ 8192 = subst (λ k. length k ≤ 8192) (sym (w.as_ruled p says)) (artefact_short p limits) in
      omega arith
