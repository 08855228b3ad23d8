-- The tree of a text, byte by byte.
use Rattle.std.proofs.Common.{◌≡◌, ℕ, suc, ◌<◌, ◌≤◌, cond, eqb, leb, List, [], ◌∷◌, ◌++◌, reverse, length, drop, take, min, length-append, sym, refl, ap, ◌∙◌, subst, vec_items, Ok, Err, Result, arith, rules}
use mathlib.Core.List.{reverse-cons, reverse-append}
use Rattle.std.proofs.lemmas.List.{length-reverse, drop_all, take_all, drop-append-le, take-append-le}
use Rattle.std.proofs.lemmas.Bool.{cond-true, cond-false, ne_eqb, lt-leb, le-leb}
use Rattle.rules.specs.declared.cause.Cause.{Cause}
use Rattle.rules.specs.Words.{Datum, list_of}
use Rattle.rules.specs.Reading.{Open as PureOpen, Read, reads, refused, bracket, quoted, Progress, settle, start, nest, close, ended, quote_of}
use Rattle.rules.specs.Reading.{Form as PureForm}
use Rattle.text.specs.declared.data.Value.{Value}
use Rattle.text.specs.declared.data.Cell.{Cell}
use Rattle.text.specs.declared.tree.Open.{Open}
use Rattle.text.specs.declared.refusal.ReadFault.{ReadFault}
use Rattle.text.specs.declared.refusal.ReadFault.TheVariants.{Refused, Memory}
use Rattle.text.specs.declared.tree.Form.{Form}
use Rattle.word.specs.declared.Word.{Word}
use Rattle.word.specs.declared.home.Home.{Home}
use Rattle.text.specs.declared.tree.Tree.{Tree}
use Rattle.word.specs.Words.{home_of}
use Rattle.text.specs.Data.{Each, Stands, Grows, Quoted, Listed}
use Rattle.text.specs.Tree.{FormIs, Forms, Opens, Opened, Built, Went, Steps, RefusedAs}
use Rattle.text.proofs.Lists.{each_on, each_push}
use Rattle.text.proofs.Means.{stands_on}

-- what goes on to stand while cells are added
opened_on : (cs es : List Cell) → Grows cs es → (vs : List Value) (os : List Open) (qs : List PureOpen) → Opened cs vs os qs → Opened es vs os qs
opened_on cs es g [] [] [] o = o
opened_on cs es g (v ∷ vs) [] [] o = o
opened_on cs es g vs [] (q ∷ qs) o = o
opened_on cs es g vs (Open.Quote ∷ os) [] o = o
opened_on cs es g vs (Open.Quote ∷ os) (quoted ∷ qs) o = opened_on cs es g vs os qs o
opened_on cs es g vs (Open.Quote ∷ os) (bracket ds ∷ qs) o = o
opened_on cs es g vs (Open.List before ∷ os) [] o = o
opened_on cs es g vs (Open.List before ∷ os) (quoted ∷ qs) o = o
opened_on cs es g vs (Open.List before ∷ os) (bracket ds ∷ qs) o = (
  o.0,
  each_on (Stands cs) (Stands es) (λ v d. stands_on cs es v d g) (drop before vs) (reverse ds) o.1,
  opened_on cs es g (take before vs) os qs o.2,
)

-- as many are open as the rules say
opened_length : (cs : List Cell) (vs : List Value) (os : List Open) (qs : List PureOpen) → Opened cs vs os qs → length os ≡ length qs
opened_length cs [] [] [] o = refl
opened_length cs (v ∷ vs) [] [] o = refl
opened_length cs vs [] (q ∷ qs) o = absurd o
opened_length cs vs (Open.Quote ∷ os) [] o = absurd o
opened_length cs vs (Open.Quote ∷ os) (quoted ∷ qs) o = ap suc (opened_length cs vs os qs o)
opened_length cs vs (Open.Quote ∷ os) (bracket ds ∷ qs) o = absurd o
opened_length cs vs (Open.List before ∷ os) [] o = absurd o
opened_length cs vs (Open.List before ∷ os) (quoted ∷ qs) o = absurd o
opened_length cs vs (Open.List before ∷ os) (bracket ds ∷ qs) o = ap suc (opened_length cs (take before vs) os qs o.2)

-- one more opens, after the values that were read
opened_more : (cs : List Cell) (vs : List Value) (o : Open) (os : List Open) (q : PureOpen) (qs : List PureOpen) → Opens (length vs) o q → Opened cs vs os qs → Opened cs vs (o ∷ os) (q ∷ qs)
opened_more cs vs Open.Quote os quoted qs i b = b
opened_more cs vs Open.Quote os (bracket ds) qs i b = absurd i
opened_more cs vs (Open.List before) os quoted qs i b = absurd i
opened_more cs vs (Open.List before) os (bracket []) qs i b = (
  omega (arith, i),
  rw (drop_all before vs (omega (arith, i))) tt,
  rw (take_all before vs (omega (arith, i))) b,
)
opened_more cs vs (Open.List before) os (bracket (d ∷ ds)) qs i b = absurd i

forms_on : (cs es : List Cell) → Grows cs es → (fs : List Form) (gs : List PureForm) → Forms cs fs gs → Forms es fs gs
forms_on cs es g = each_on (FormIs cs) (FormIs es) (λ f h e. (e.0, stands_on cs es f.datum h.datum g e.1))

-- the newest of a stack
pub newest : {A : Type 0} (xs ys : List A) (x : A) → xs ≡ ys ++ x ∷ [] → reverse xs ≡ x ∷ reverse ys
newest xs ys x e = ap reverse e ∙ reverse-append ys (x ∷ [])

-- z is y but for cells that were added, what is open, and where the form begins
pub record Beside (y z : Tree) : Type 0 where
  pub home : z.home ≡ y.home
  pub grown : Grows (vec_items y.cells) (vec_items z.cells)
  pub forms : vec_items z.forms ≡ vec_items y.forms

-- what z was built to, where these lists and quotes are open in it, and its form begins there
built_beside : (y z : Tree) (p : Progress) (os : List PureOpen) (begun : ℕ) → Beside y z → Opened (vec_items y.cells) (vec_items z.values) (reverse (vec_items z.opened)) os → z.begun ≡ begun → Built y p → Built z (record { opened = os; begun = begun; forms = p.forms })
built_beside y z p os begun k o at b = record {
  opened = opened_on (vec_items y.cells) (vec_items z.cells) k.grown (vec_items z.values) (reverse (vec_items z.opened)) os o;
  begun = at;
  forms = rw k.forms (forms_on (vec_items y.cells) (vec_items z.cells) k.grown (vec_items y.forms) (reverse p.forms) b.forms);
}

-- the quotes around a datum so far are closed: y has what is open around them, and w stands for the datum with them
pub record Settling (x y : Tree) (w : Value) (p : Progress) (d : Datum) : Type 0 where
  pub outer : List PureOpen
  pub whole : Datum
  pub same : settle (home_of x.home) p.begun p.forms p.opened d ≡ settle (home_of x.home) p.begun p.forms outer whole
  pub built : Built y (record { opened = outer; begun = p.begun; forms = p.forms })
  pub stands : Stands (vec_items y.cells) w whole
  pub home : y.home ≡ x.home

abbrev pub Settles : Tree → Value → Tree → Value → Type 0
Settles x v y w = (p : Progress) (d : Datum) → Built x p → Stands (vec_items x.cells) v d → Settling x y w p d

pub settles_first : (x : Tree) (v : Value) → Settles x v x v
settles_first x v p d b s = record { outer = p.opened; whole = d; same = refl; built = b; stands = s; home = refl }

-- one more quote closes
pub quote_closed : (x y z : Tree) (v w u : Value) → Beside y z → z.begun ≡ y.begun → vec_items y.opened ≡ vec_items z.opened ++ Open.Quote ∷ [] → vec_items z.values ≡ vec_items y.values → Quoted (vec_items y.cells) (vec_items z.cells) y.home w u → Settles x v y w → Settles x v z u
quote_closed x y z v w u k at n kept q f p d b s = let t = f p d b s in by t t.outer t.same t.built (subst (λ (os : List Open). Opened (vec_items y.cells) (vec_items y.values) os t.outer) (newest _ _ Open.Quote n) t.built.opened)
  where
    by : (t : Settling x y w p d) (outer : List PureOpen) → settle (home_of x.home) p.begun p.forms p.opened d ≡ settle (home_of x.home) p.begun p.forms outer t.whole → Built y (record { opened = outer; begun = p.begun; forms = p.forms }) → Opened (vec_items y.cells) (vec_items y.values) (Open.Quote ∷ reverse (vec_items z.opened)) outer → Settling x z u p d
    by t [] e b o = absurd o
    by t (bracket ds ∷ outer) e b o = absurd o
    by t (quoted ∷ outer) e b o = record {
      outer = outer;
      whole = quote_of (home_of x.home) t.whole;
      same = e;
      built = built_beside y z (record { opened = quoted ∷ outer; begun = p.begun; forms = p.forms }) outer p.begun k (rw kept o) (at ∙ b.begun) b;
      stands = subst (λ (h : Home). Stands (vec_items z.cells) u (quote_of (home_of h) t.whole)) t.home (q.each t.whole t.stands);
      home = k.home ∙ t.home;
    }

abbrev Settled : Tree → Tree → Progress → Datum → Type 0
Settled x z p d = (q : Progress) × (reads (settle (home_of x.home) p.begun p.forms p.opened d) ≡ reads q) × Built z q × (z.home ≡ x.home)

-- the datum goes into the innermost list
pub datum_joined : (x y z : Tree) (v w : Value) (os : List Open) (before : ℕ) → Beside y z → z.begun ≡ y.begun → vec_items y.opened ≡ os ++ Open.List before ∷ [] → vec_items z.opened ≡ os ++ Open.List before ∷ [] → vec_items z.values ≡ vec_items y.values ++ w ∷ [] → Settles x v y w → (p : Progress) (d : Datum) → Built x p → Stands (vec_items x.cells) v d → Settled x z p d
datum_joined x y z v w os before k at n m i f p d b s = let t = f p d b s in by t t.outer t.same t.built (subst (λ (os : List Open). Opened (vec_items y.cells) (vec_items y.values) os t.outer) (newest _ _ (Open.List before) n) t.built.opened)
  where
    by : (t : Settling x y w p d) (outer : List PureOpen) → settle (home_of x.home) p.begun p.forms p.opened d ≡ settle (home_of x.home) p.begun p.forms outer t.whole → Built y (record { opened = outer; begun = p.begun; forms = p.forms }) → Opened (vec_items y.cells) (vec_items y.values) (Open.List before ∷ reverse os) outer → Settled x z p d
    by t [] e b o = absurd o
    by t (quoted ∷ outer) e b o = absurd o
    by t (bracket ds ∷ outer) e b o =
        let vs = vec_items y.values in
        let more : Each (Stands (vec_items y.cells)) (drop before vs ++ w ∷ []) (reverse ds ++ t.whole ∷ []) = each_push (Stands (vec_items y.cells)) (drop before vs) (reverse ds) w t.whole o.1 t.stands in
        let item : Each (Stands (vec_items y.cells)) (drop before (vs ++ w ∷ [])) (reverse (t.whole ∷ ds)) = rw (drop-append-le before vs (w ∷ []) o.0, reverse-cons t.whole ds) more in
        let outside : Opened (vec_items y.cells) (take before (vs ++ w ∷ [])) (reverse os) outer = rw (take-append-le before vs (w ∷ []) o.0) o.2 in
        let longer = length-append vs (w ∷ []) in
        let within : before ≤ length (vs ++ w ∷ []) = omega (arith, longer, o.0) in
        let all : Opened (vec_items y.cells) (vec_items z.values) (reverse (vec_items z.opened)) (bracket (t.whole ∷ ds) ∷ outer) = rw (newest _ _ (Open.List before) m, i) (within, item, outside) in (
          record { opened = bracket (t.whole ∷ ds) ∷ outer; begun = p.begun; forms = p.forms },
          ap reads e,
          built_beside y z (record { opened = bracket ds ∷ outer; begun = p.begun; forms = p.forms }) (bracket (t.whole ∷ ds) ∷ outer) p.begun k all (at ∙ b.begun) b,
          k.home ∙ t.home,
        )

-- the datum is a form
pub form_added : (x y z : Tree) (v w : Value) → vec_items y.opened ≡ [] → z.home ≡ y.home → z.begun ≡ y.begun → vec_items z.cells ≡ vec_items y.cells → vec_items z.opened ≡ [] → vec_items z.values ≡ vec_items y.values → vec_items z.forms ≡ vec_items y.forms ++ record { offset = y.begun; datum = w } ∷ [] → Settles x v y w → (p : Progress) (d : Datum) → Built x p → Stands (vec_items x.cells) v d → Settled x z p d
form_added x y z v w n home begun cells opened kept pushed f p d b s = let t = f p d b s in by t t.outer t.same t.built (subst (λ (os : List Open). Opened (vec_items y.cells) (vec_items y.values) (reverse os) t.outer) n t.built.opened)
  where
    by : (t : Settling x y w p d) (outer : List PureOpen) → settle (home_of x.home) p.begun p.forms p.opened d ≡ settle (home_of x.home) p.begun p.forms outer t.whole → Built y (record { opened = outer; begun = p.begun; forms = p.forms }) → Opened (vec_items y.cells) (vec_items y.values) [] outer → Settled x z p d
    by t (q ∷ outer) e b o = absurd o
    by t [] e b o =
        let g : PureForm = record { offset = p.begun; datum = t.whole } in
        let more : Forms (vec_items y.cells) (vec_items y.forms ++ record { offset = y.begun; datum = w } ∷ []) (reverse p.forms ++ g ∷ []) = each_push (FormIs (vec_items y.cells)) (vec_items y.forms) (reverse p.forms) (record { offset = y.begun; datum = w }) g b.forms (b.begun, t.stands) in
        let all : Forms (vec_items y.cells) (vec_items z.forms) (reverse (g ∷ p.forms)) = rw (pushed, reverse-cons g p.forms) more in (
          record { opened = []; begun = p.begun; forms = g ∷ p.forms },
          ap reads e,
          record {
            opened = rw (opened, kept, cells) o;
            begun = begun ∙ b.begun;
            forms = rw cells all;
          },
          home ∙ t.home,
        )

-- as many lists and quotes are open as the rules say
opened_count : (x : Tree) (p : Progress) → Built x p → length (vec_items x.opened) ≡ length p.opened
opened_count x p b = sym (length-reverse (vec_items x.opened)) ∙ opened_length (vec_items x.cells) (vec_items x.values) (reverse (vec_items x.opened)) p.opened b.opened

start_is : (os : List PureOpen) (n begun at : ℕ) → n ≡ length os → cond (eqb n 0) at begun ≡ start os begun at
start_is [] n begun at e = ap (λ n. cond (eqb n 0) at begun) e
start_is (o ∷ os) n begun at e = cond-false (eqb n 0) at begun (ne_eqb n 0 (λ z. omega arith))

-- where the form begins that goes on at `at`
begun_is : (x : Tree) (at begun : ℕ) (p : Progress) → begun ≡ cond (eqb (length (vec_items x.opened)) 0) at x.begun → Built x p → begun ≡ start p.opened p.begun at
begun_is x at begun p e b = e ∙ ap (λ n. cond (eqb (length (vec_items x.opened)) 0) at n) b.begun ∙ start_is p.opened (length (vec_items x.opened)) p.begun at (opened_count x p b)

-- y is x after an item began in it
pub item_begun : (x y : Tree) (at : ℕ) → Beside x y → y.begun ≡ cond (eqb (length (vec_items x.opened)) 0) at x.begun → vec_items y.opened ≡ vec_items x.opened → vec_items y.values ≡ vec_items x.values → (p : Progress) → Built x p → Built y (record { opened = p.opened; begun = start p.opened p.begun at; forms = p.forms })
item_begun x y at k e opened kept p b = built_beside x y p p.opened (start p.opened p.begun at) k (rw (opened, kept) b.opened) (begun_is x at y.begun p e b) b

-- y is x after a list or a quote was opened in it
pub opened_nests : (x y : Tree) (o : Open) (at : ℕ) → length (vec_items x.opened) < 64 → Beside x y → y.begun ≡ cond (eqb (length (vec_items x.opened)) 0) at x.begun → vec_items y.opened ≡ vec_items x.opened ++ o ∷ [] → vec_items y.values ≡ vec_items x.values → (q : PureOpen) → Opens (length (vec_items x.values)) o q → (p : Progress) → Built x p → Went (nest p at q) x y (Ok tt)
opened_nests x y o at room k e pushed kept q i p b = (
  record { opened = q ∷ p.opened; begun = start p.opened p.begun at; forms = p.forms },
  cond-false (leb 64 (length p.opened)) _ _ (lt-leb 64 (length p.opened) (omega (arith, opened_count x p b))),
  built_beside x y p (q ∷ p.opened) (start p.opened p.begun at) k (rw (newest _ _ o pushed, kept) (opened_more (vec_items x.cells) (vec_items x.values) o (reverse (vec_items x.opened)) q p.opened i b.opened)) (begun_is x at y.begun p e b) b,
  k.home,
)

-- where 64 are open, no more are
pub too_deep : (x y : Tree) (at : ℕ) (q : PureOpen) (f : ReadFault) → 64 ≤ length (vec_items x.opened) → RefusedAs {A = Progress} (refused Cause.NestedTooDeep at) x.home.«module» f → (p : Progress) → Built x p → Went (nest p at q) x y (Err f)
too_deep x y at q f l r p b = subst (λ (o : Read Progress). RefusedAs o x.home.«module» f) (sym (cond-true (leb 64 (length p.opened)) _ _ (le-leb 64 (length p.opened) (omega (arith, opened_count x p b))))) r

-- a step from a tree that is at home where x is
went_from : (x z y : Tree) (o : Read Progress) (r : Result (Unit {0}) ReadFault) → z.home ≡ x.home → Went o z y r → Went o x y r
went_from x z y o (Ok u) e w = (w.0, w.1, w.2, w.3 ∙ e)
went_from x z y o (Err f) e w = subst (λ (h : Home). RefusedAs o h.«module» f) e w

-- a list closes, and what is added after it is as the rules say
pub list_closed : (x z y : Tree) (at before cut : ℕ) (list : Value) (r : Result (Unit {0}) ReadFault) → Beside x z → z.begun ≡ x.begun → vec_items x.opened ≡ vec_items z.opened ++ Open.List before ∷ [] → cut ≡ min before (length (vec_items x.values)) → vec_items z.values ≡ take cut (vec_items x.values) → Listed (vec_items x.cells) (vec_items z.cells) (drop cut (vec_items x.values)) list → ((d : Datum) → Stands (vec_items z.cells) list d → Steps (λ h p. reads (settle h p.begun p.forms p.opened d)) z y r) → Steps (λ h p. close h at p.begun p.forms p.opened) x y r
list_closed x z y at before cut list r k e n c kept l add p b = by p.opened b (subst (λ (os : List Open). Opened (vec_items x.cells) (vec_items x.values) os p.opened) (newest _ _ (Open.List before) n) b.opened)
  where
    by : (os : List PureOpen) → Built x p → Opened (vec_items x.cells) (vec_items x.values) (Open.List before ∷ reverse (vec_items z.opened)) os → Went (close (home_of x.home) at p.begun p.forms os) x y r
    by [] b o = absurd o
    by (quoted ∷ os) b o = absurd o
    by (bracket ds ∷ os) b o =
        let within = o.0 in
        let least : min before (length (vec_items x.values)) ≡ before = search rules in
        let same : cut ≡ before = c ∙ least in
        went_from x z y (reads (settle (home_of x.home) p.begun p.forms os (list_of (reverse ds)))) r k.home (rw (← k.home) (add (list_of (reverse ds)) (l.each (reverse ds) (rw same o.1)) (record { opened = os; begun = p.begun; forms = p.forms }) (built_beside x z p os p.begun k (rw (kept, same) o.2) (e ∙ b.begun) b)))

-- a refusal of one reading is a refusal of another
pub refused_through : {A B : Type 0} (o : Read A) (u : Read B) (m : Word) → ((c : Cause) (k : ℕ) → o ≡ refused c k → u ≡ refused c k) → (f : ReadFault) → RefusedAs o m f → RefusedAs u m f
refused_through o u m through (Refused f) (c, k, e, g) = (c, k, through c k e, g)
refused_through o u m through Memory r = tt

-- the text ends inside a list or after a quote
pub ended_inside : (x : Tree) (end : ℕ) (f : ReadFault) → 0 < length (vec_items x.opened) → RefusedAs {A = Progress} (refused Cause.Unbalanced end) x.home.«module» f → (p : Progress) → Built x p → RefusedAs (ended end p.forms p.opened) x.home.«module» f
ended_inside x end f l r p b = by p.opened (opened_count x p b)
  where
    by : (os : List PureOpen) → length (vec_items x.opened) ≡ length os → RefusedAs (ended end p.forms os) x.home.«module» f
    by [] e = absurd (omega arith)
    by (q ∷ os) e = refused_through (refused Cause.Unbalanced end) _ x.home.«module» (λ c k e. cc) f r
