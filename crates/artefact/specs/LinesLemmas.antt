-- Lines and their fields: which bytes they hold, and that a line has one reading.
use Rattle.std.specs.Prelude.{◌≡◌, ℕ, zero, suc, ◌^◌, ◌<◌, ◌≤◌, Bool, true, false, ◌&&◌, List, [], ◌∷◌, ◌++◌, length, ℤ, pos, negsuc, IsAscii, decimal, ◌==◌, ◌≢◌, nat_le, nat_lt, refl}
use Rattle.std.proofs.Common.{sym, ap, ◌∙◌, arith}
use Rattle.std.specs.Fmt.{signed_decimal}
use Rattle.std.specs.Str.{bytes_eq}
use Rattle.std.proofs.lemmas.Fmt.{digits_decimal}
use Rattle.std.proofs.lemmas.List.{append_assoc, append_cancel_right}
use Rattle.std.proofs.lemmas.Str.Ascii.{IsAscii-nil, IsAscii-cons}
use Rattle.std.proofs.lemmas.Bool.{and_parts, and_from, and_left, ltb-true, lt-ltb}
use Rattle.std.proofs.lemmas.Bool.Decides.{nat_tests}
use Rattle.rules.specs.declared.primitive.Primitive.{Primitive}
use Rattle.rules.specs.Words.{Spelling, letter, digit, item_byte, item_bytes, is_word, prim_spelling}
use Rattle.rules.specs.Reading.{all_digits}
use Rattle.rules.specs.Evaluate.{in_range}
use Rattle.rules.specs.Artefact.{line}
use Rattle.artefact.specs.Lines.{Lacks, Ended}
use Rattle.artefact.specs.Fields.{five, is_unused}
use Rattle.artefact.specs.Numbers.{own}

-- bytes of text, and among them those that are no blanks
abbrev pub low : List ℕ → Bool
low [] = true
low (b ∷ bs) = nat_lt b 128 && low bs

abbrev pub graphic : List ℕ → Bool
graphic [] = true
graphic (b ∷ bs) = nat_lt 32 b && nat_lt b 128 && graphic bs

graphic_parts : (b : ℕ) (bs : List ℕ) → graphic (b ∷ bs) ≡ true → (32 < b) × (b < 128) × (graphic bs ≡ true)
graphic_parts b bs h =
    let t = and_parts (nat_lt 32 b && nat_lt b 128) (graphic bs) h in
    let u = and_parts (nat_lt 32 b) (nat_lt b 128) t.0 in
    (ltb-true 32 b u.0, ltb-true b 128 u.1, t.1)

graphic_from : (b : ℕ) (bs : List ℕ) → 32 < b → b < 128 → graphic bs ≡ true → graphic (b ∷ bs) ≡ true
graphic_from b bs l m h = and_from (nat_lt 32 b && nat_lt b 128) (graphic bs) (and_from (nat_lt 32 b) (nat_lt b 128) (lt-ltb 32 b l) (lt-ltb b 128 m)) h

-- no blank stands among them
pub lacks_blank : (b : ℕ) (bs : List ℕ) → b ≤ 32 → graphic bs ≡ true → Lacks b bs
lacks_blank b [] s h i l e = omega arith
lacks_blank b (x ∷ xs) s h zero l e = let t = graphic_parts x xs h in omega arith
lacks_blank b (x ∷ xs) s h (suc i) l e = lacks_blank b xs s (graphic_parts x xs h).2 i (omega arith) e

pub low_append : (xs ys : List ℕ) → low xs ≡ true → low ys ≡ true → low (xs ++ ys) ≡ true
low_append [] ys p q = q
low_append (x ∷ xs) ys p q = let t = and_parts (nat_lt x 128) (low xs) p in and_from (nat_lt x 128) (low (xs ++ ys)) t.0 (low_append xs ys t.1 q)

pub graphic_low : (xs : List ℕ) → graphic xs ≡ true → low xs ≡ true
graphic_low [] h = refl
graphic_low (x ∷ xs) h = let t = graphic_parts x xs h in and_from (nat_lt x 128) (low xs) (lt-ltb x 128 t.1) (graphic_low xs t.2)

pub low_ascii : (xs : List ℕ) → low xs ≡ true → IsAscii xs
low_ascii [] h = IsAscii-nil
low_ascii (x ∷ xs) h = let t = and_parts (nat_lt x 128) (low xs) h in IsAscii-cons x xs (ltb-true x 128 t.0) (low_ascii xs t.1)

pub lacks_append : (b : ℕ) (xs ys : List ℕ) → Lacks b xs → Lacks b ys → Lacks b (xs ++ ys)
lacks_append b [] ys p q i l e = q i l e
lacks_append b (x ∷ xs) ys p q zero l e = p zero (omega arith) e
lacks_append b (x ∷ xs) ys p q (suc i) l e = lacks_append b xs ys (λ j k. p (suc j) (omega arith)) q i (omega arith) e

pub lacks_cons : (b x : ℕ) (xs : List ℕ) → (x ≢ b) → Lacks b xs → Lacks b (x ∷ xs)
lacks_cons b x xs p q zero l e = p e
lacks_cons b x xs p q (suc i) l e = q i (omega arith) e

-- a field
abbrev pub Plain : List ℕ → Type 0
Plain w = graphic w ≡ true

pub no_space : (w : List ℕ) → Plain w → Lacks 32 w
no_space w p = lacks_blank 32 w (omega arith) p

pub no_feed : (w : List ℕ) → Plain w → Lacks 10 w
no_feed w p = lacks_blank 10 w (omega arith) p

item_graphic : (b : ℕ) → item_byte b ≡ true → (32 < b) × (b < 128)
item_graphic b h = (grind (arith, nat_tests), grind (arith, nat_tests))

items_plain : (w : Spelling) → item_bytes w ≡ true → Plain w
items_plain [] h = refl
items_plain (b ∷ bs) h =
    let t = and_parts (item_byte b) (item_bytes bs) h in
    let u = item_graphic b t.0 in
    graphic_from b bs u.0 u.1 (items_plain bs t.1)

letter_item : (b : ℕ) → letter b ≡ true → item_byte b ≡ true
letter_item b h = grind (arith, nat_tests)

word_items : (w : Spelling) → is_word w ≡ true → item_bytes w ≡ true
word_items [] h = refl
word_items (b ∷ bs) h =
    let t = and_parts (letter b && item_bytes bs) (nat_le (length bs) 11) h in
    let u = and_parts (letter b) (item_bytes bs) t.0 in
    ap (λ x. x && item_bytes bs) (letter_item b u.0) ∙ u.1

pub plain_word : (w : Spelling) → is_word w ≡ true → Plain w
plain_word w h = items_plain w (word_items w h)

-- a word is no unused field
pub word_used : (w : Spelling) → is_word w ≡ true → is_unused w ≡ false
word_used [] h = refl
word_used (b ∷ bs) h =
    let t = and_parts (letter b && item_bytes bs) (nat_le (length bs) 11) h in
    and_left (b == 45) (bytes_eq bs []) (no_letter b (and_parts (letter b) (item_bytes bs) t.0).0)
  where
    no_letter : (b : ℕ) → letter b ≡ true → (b == 45) ≡ false
    no_letter b h = grind (arith, nat_tests)

digits_plain : (ds : Spelling) → all_digits ds ≡ true → Plain ds
digits_plain [] h = refl
digits_plain (d ∷ ds) h =
    let t = and_parts (digit d) (all_digits ds) h in
    let u = graphic_digit d t.0 in
    graphic_from d ds u.0 u.1 (digits_plain ds t.1)
  where
    graphic_digit : (b : ℕ) → digit b ≡ true → (32 < b) × (b < 128)
    graphic_digit b h = (grind (arith, nat_tests), grind (arith, nat_tests))

pub plain_decimal : (n : ℕ) → n < 2 ^ 64 → Plain (decimal n)
plain_decimal n l = digits_plain (decimal n) (digits_decimal own n l)

pub plain_signed : (z : ℤ) → in_range z ≡ true → Plain (signed_decimal z)
plain_signed (pos n) r = plain_decimal n (omega (arith, ltb-true n 2147483648 r))
plain_signed (negsuc n) r = graphic_from 45 (decimal (suc n)) (omega arith) (omega arith) (plain_decimal (suc n) (omega (arith, ltb-true n 2147483648 r)))

pub plain_primitive : (p : Primitive) → Plain (prim_spelling p)
plain_primitive Primitive.Add = refl
plain_primitive Primitive.Sub = refl
plain_primitive Primitive.Mul = refl
plain_primitive Primitive.Less = refl
plain_primitive Primitive.Same = refl
plain_primitive Primitive.Pair = refl
plain_primitive Primitive.Head = refl
plain_primitive Primitive.Tail = refl
plain_primitive Primitive.IsPair = refl
plain_primitive Primitive.IsNumber = refl
plain_primitive Primitive.IsName = refl
plain_primitive Primitive.Print = refl

-- what stands before the first b, and what after it, is one
pub cut_once : (b : ℕ) (xs ys r s : List ℕ) → Lacks b xs → Lacks b ys → xs ++ (b ∷ r) ≡ ys ++ (b ∷ s) → (xs ≡ ys) × (r ≡ s)
cut_once b [] [] r s p q e = (refl, let t : r ≡ s = cc in t)
cut_once b [] (y ∷ ys) r s p q e = absurd (q zero (omega arith) (let t : y ≡ b = cc in t))
cut_once b (x ∷ xs) [] r s p q e = absurd (p zero (omega arith) (let t : x ≡ b = cc in t))
cut_once b (x ∷ xs) (y ∷ ys) r s p q e =
    let first : x ≡ y = cc in
    let rest : xs ++ (b ∷ r) ≡ ys ++ (b ∷ s) = cc in
    let t = cut_once b xs ys r s (λ i l. p (suc i) (omega arith)) (λ i l. q (suc i) (omega arith)) rest in
    (let u = t.0 in cc, t.1)

-- one line in front, and what comes after it
pub line_once : (k l r s : List ℕ) → Ended k → Ended l → k ++ r ≡ l ++ s → (k ≡ l) × (r ≡ s)
line_once k l r s p q e =
    let t = cut_once 10 p.0 q.0 r s p.2 q.2 (sym (append_assoc p.0 (10 ∷ []) r) ∙ ap (λ x. x ++ r) (sym p.1) ∙ e ∙ ap (λ x. x ++ s) q.1 ∙ append_assoc q.0 (10 ∷ []) s) in
    (p.1 ∙ ap (λ x. x ++ (10 ∷ [])) t.0 ∙ sym q.1, t.1)

-- five fields, by name
pub record Five : Type 0 where
  pub a : List ℕ
  pub b : List ℕ
  pub c : List ℕ
  pub d : List ℕ
  pub e : List ℕ

abbrev pub fields : List ℕ → List ℕ → List ℕ → List ℕ → List ℕ → Five
fields a b c d e = record { a = a; b = b; c = c; d = d; e = e }

pub same_fields : (a b c d e p q r s t : List ℕ) → a ≡ p → b ≡ q → c ≡ r → d ≡ s → e ≡ t → fields a b c d e ≡ fields p q r s t
same_fields a b c d e p q r s t f g h j k = λ i. record { a = f i; b = g i; c = h i; d = j i; e = k i }

abbrev pub body : Five → List ℕ
body f = five f.a f.b f.c f.d f.e

abbrev pub line_of : Five → List ℕ
line_of f = line (f.a ∷ f.b ∷ f.c ∷ f.d ∷ f.e ∷ [])

pub record AllPlain (f : Five) : Type 0 where
  pub pa : Plain f.a
  pub pb : Plain f.b
  pub pc : Plain f.c
  pub pd : Plain f.d
  pub pe : Plain f.e

pub line_body : (f : Five) → line_of f ≡ body f ++ (10 ∷ [])
line_body f = sym (simp append_assoc)

-- two parts with a space between them
spaced : (x y : List ℕ) → Lacks 10 x → Lacks 10 y → Lacks 10 (x ++ (32 ∷ y))
spaced x y p q = lacks_append 10 x (32 ∷ y) p (lacks_cons 10 32 y (λ e. omega (arith, e)) q)

spaced_low : (x y : List ℕ) → Plain x → low y ≡ true → low (x ++ (32 ∷ y)) ≡ true
spaced_low x y p q = low_append x (32 ∷ y) (graphic_low x p) q

pub five_ended : (f : Five) → AllPlain f → Ended (line_of f)
five_ended f p = (
  body f,
  line_body f,
  spaced f.a _ (no_feed f.a p.pa) (spaced f.b _ (no_feed f.b p.pb) (spaced f.c _ (no_feed f.c p.pc) (spaced f.d f.e (no_feed f.d p.pd) (no_feed f.e p.pe)))),
)

pub five_low : (f : Five) → AllPlain f → low (line_of f) ≡ true
five_low f p =
    spaced_low f.a _ p.pa (spaced_low f.b _ p.pb (spaced_low f.c _ p.pc (spaced_low f.d _ p.pd (low_append f.e (10 ∷ []) (graphic_low f.e p.pe) refl))))

pub five_once : (f g : Five) → AllPlain f → AllPlain g → line_of f ≡ line_of g → f ≡ g
five_once f g p q e =
    let bodies = append_cancel_right (body f) (body g) (10 ∷ []) (sym (line_body f) ∙ e ∙ line_body g) in
    let one = cut_once 32 f.a g.a _ _ (no_space f.a p.pa) (no_space g.a q.pa) bodies in
    let two = cut_once 32 f.b g.b _ _ (no_space f.b p.pb) (no_space g.b q.pb) one.1 in
    let three = cut_once 32 f.c g.c _ _ (no_space f.c p.pc) (no_space g.c q.pc) two.1 in
    let four = cut_once 32 f.d g.d f.e g.e (no_space f.d p.pd) (no_space g.d q.pd) three.1 in
    same_fields f.a f.b f.c f.d f.e g.a g.b g.c g.d g.e one.0 two.0 three.0 four.0 four.1
