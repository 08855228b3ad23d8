-- What stands for a datum goes on standing for it.
use Rattle.std.proofs.Common.{◌≡◌, ℕ, ◌≤◌, List, [], ◌∷◌, ◌++◌, length, get_or, codes, sym, refl, ap, ◌∙◌, subst, arith, length-append}
use Rattle.std.proofs.lemmas.List.{append-nil, append_assoc, get_or_append_left, get_or_push, length_push}
use Rattle.rules.specs.Words.{Datum, number, word, empty, pair}
use Rattle.word.specs.declared.Word.{Word}
use Rattle.word.specs.declared.home.Home.{Home}
use Rattle.text.specs.declared.data.Value.{Value}
use Rattle.text.specs.declared.data.Cell.{Cell}
use Rattle.word.specs.Words.{spelling, home_of}
use Rattle.text.specs.Data.{Means, Stands, Grows, Quoted, no_cell}

-- over more cells
pub means_further : (cs : List Cell) (m n : ℕ) (v : Value) (d : Datum) → m ≤ n → Means cs m v d → Means cs n v d
means_further cs m n v (number z) h p = p
means_further cs m n v (word w k) h p = p
means_further cs m n v empty h p = p
means_further cs m n v (pair a b) h p = (p.0, p.1, omega (arith, p.2), p.3, p.4)

-- with more cells behind
pub means_behind : (cs ds : List Cell) (n : ℕ) (v : Value) (d : Datum) → n ≤ length cs → Means cs n v d → Means (cs ++ ds) n v d
means_behind cs ds n v (number z) h p = p
means_behind cs ds n v (word w k) h p = p
means_behind cs ds n v empty h p = p
means_behind cs ds n v (pair a b) h p =
    let i = p.0 in
    let e : get_or (cs ++ ds) i no_cell ≡ get_or cs i no_cell = get_or_append_left cs ds no_cell i (omega (arith, p.2)) in (
      i,
      p.1,
      p.2,
      subst (λ (c : Cell). Means (cs ++ ds) i c.head a) (sym e) (means_behind cs ds i (get_or cs i no_cell).head a (omega (arith, p.2)) p.3),
      subst (λ (c : Cell). Means (cs ++ ds) i c.tail b) (sym e) (means_behind cs ds i (get_or cs i no_cell).tail b (omega (arith, p.2)) p.4),
    )

pub stands_on : (cs es : List Cell) (v : Value) (d : Datum) → Grows cs es → Stands cs v d → Stands es v d
stands_on cs es v d g p =
    let ds = g.0 in
    let l = length-append cs ds in
    let q : Means (cs ++ ds) (length (cs ++ ds)) v d = means_further (cs ++ ds) (length cs) (length (cs ++ ds)) v d (omega (arith, l)) (means_behind cs ds (length cs) v d (omega arith) p) in
    let P : List Cell → Type 0 = λ xs. Means xs (length xs) v d in
    subst P (sym g.1) q

pub grows_not : (cs : List Cell) → Grows cs cs
grows_not cs = ([], sym (append-nil cs))

pub grows_by : (cs es : List Cell) (c : Cell) → es ≡ cs ++ c ∷ [] → Grows cs es
grows_by cs es c e = (c ∷ [], e)

pub grows_twice : (cs es fs : List Cell) → Grows cs es → Grows es fs → Grows cs fs
grows_twice cs es fs g k = (g.0 ++ k.0, k.1 ∙ ap (λ xs. xs ++ k.0) g.1 ∙ append_assoc cs g.0 k.0)

-- a new pair
pub pair_pushed : (cs es : List Cell) (a b w : Value) (x y : Datum) → w ≡ Value.Pair (length cs) → es ≡ cs ++ record { head = a; tail = b } ∷ [] → Stands cs a x → Stands cs b y → Stands es w (pair x y)
pair_pushed cs es a b w x y i e p q =
    let c : Cell = record { head = a; tail = b } in
    let at : get_or (cs ++ c ∷ []) (length cs) no_cell ≡ c = get_or_push cs c no_cell (length cs) refl in
    let l = length_push cs c in
    let P : List Cell → Type 0 = λ xs. Means xs (length xs) w (pair x y) in
    let whole : Means (cs ++ c ∷ []) (length (cs ++ c ∷ [])) w (pair x y) = (
      length cs,
      i,
      omega (arith, l),
      subst (λ (k : Cell). Means (cs ++ c ∷ []) (length cs) k.head x) (sym at) (means_behind cs (c ∷ []) (length cs) a x (omega arith) p),
      subst (λ (k : Cell). Means (cs ++ c ∷ []) (length cs) k.tail y) (sym at) (means_behind cs (c ∷ []) (length cs) b y (omega arith) q),
    ) in
    subst P (sym e) whole

-- the two pairs of a quote
pub quoted_by_two : (cs es fs : List Cell) (h : Home) (q : Word) (v r w : Value) → spelling q ≡ codes "quote" → r ≡ Value.Pair (length cs) → es ≡ cs ++ record { head = v; tail = Value.Empty } ∷ [] → w ≡ Value.Pair (length es) → fs ≡ es ++ record { head = Value.Word (record { word = q; home = h }); tail = r } ∷ [] → Quoted cs fs h v w
quoted_by_two cs es fs h q v r w s i e j f = record {
  grown = grows_twice cs es fs (grows_by cs es _ e) (grows_by es fs _ f);
  each = λ d p. pair_pushed es fs _ _ w (word (codes "quote") (home_of h)) (pair d empty) j f (record { word = q; home = h }, refl, s, refl) (pair_pushed cs es _ _ r d empty i e p refl);
}
