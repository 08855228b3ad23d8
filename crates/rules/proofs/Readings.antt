-- The laws of reading: where and why a text is refused, and that it reads alike in any home.
use Rattle.std.proofs.Common.{◌≡◌, ℕ, ◌+◌, ◌-◌, ◌≤◌, Bool, true, false, cond, ◌||◌, eqb, leb, List, [], ◌∷◌, map, reverse, length, ℤ, Some, None, Option, refl, ap, ◌∙◌, subst, arith, lit≤}
use mathlib.Core.List.{reverse_aux}
use lib.ListN.{length-map}
use Rattle.rules.specs.declared.cause.Cause.{Cause}
use Rattle.rules.specs.Causes.{number_of}
use Rattle.rules.specs.Words.{Spelling, Home, Datum, list_of, item_byte, is_word}
use Rattle.rules.specs.Reading.{Form, Read, reads, refused, read, ◌>>=◌, Open, bracket, quoted, Progress, numeral, numbered, item_of, quote_of, settle, start, nest, close, mark, placed, finish, ended, scan, nothing_read}
use Rattle.rules.specs.Laws.{FaultsLieWithin, RefusesAsReading, rehomed, rehomed_form, mapped, rehomed_read, ReadsByBytesAndHome}

-- a refusal by one of the causes of reading, at most so far into the text
abbrev Sound : {A : Type 0} → ℕ → Read A → Type 0
Sound n (reads a) = Unit {0}
Sound n (refused c at) = (at ≤ n) × (10 ≤ number_of c) × (number_of c ≤ 13)

then_sound : {A B : Type 0} (n : ℕ) (r : Read A) (f : A → Read B) → Sound n r → ((a : A) → Sound n (f a)) → Sound n (◌>>=◌ r f)
then_sound n (reads a) f s go = go a
then_sound n (refused c at) f s go = s

cond_sound : {A : Type 0} (n : ℕ) (b : Bool) (x y : Read A) → Sound n x → Sound n y → Sound n (cond b x y)
cond_sound n true x y s t = s
cond_sound n false x y s t = t

nest_sound : (n : ℕ) (p : Progress) (at : ℕ) (o : Open) → at ≤ n → Sound n (nest p at o)
nest_sound n p at o h = cond_sound n (leb 64 (length p.opened)) (refused Cause.NestedTooDeep at) (reads _) (h, lit≤ tt, lit≤ tt) tt

close_sound : (n : ℕ) (h : Home) (at begun : ℕ) (fs : List Form) (os : List Open) → at ≤ n → Sound n (close h at begun fs os)
close_sound n h at begun fs [] le = (le, lit≤ tt, lit≤ tt)
close_sound n h at begun fs (bracket ds ∷ more) le = tt
close_sound n h at begun fs (quoted ∷ more) le = (le, lit≤ tt, lit≤ tt)

mark_sound : (n : ℕ) (h : Home) (b at : ℕ) (p : Progress) → at ≤ n → Sound n (mark h b at p)
mark_sound n h b at p le =
    cond_sound n (eqb b 32 || eqb b 10) (reads p) _ tt
    (cond_sound n (eqb b 40) (nest p at (bracket [])) _ (nest_sound n p at (bracket []) le)
    (cond_sound n (eqb b 39) (nest p at quoted) _ (nest_sound n p at quoted le)
    (cond_sound n (eqb b 41) (close h at p.begun p.forms p.opened) (refused Cause.StrayByte at) (close_sound n h at p.begun p.forms p.opened le) (le, lit≤ tt, lit≤ tt))))

placed_sound : (n : ℕ) (h : Home) (at : ℕ) (p : Progress) (d : Option Datum) → at ≤ n → Sound n (placed h at p d)
placed_sound n h at p None le = (le, lit≤ tt, lit≤ tt)
placed_sound n h at p (Some d) le = tt

-- an item begins before the byte that ends it
finish_sound : (n : ℕ) (h : Home) (at : ℕ) (pending : List ℕ) (p : Progress) → at ≤ n → Sound n (finish h at pending p)
finish_sound n h at [] p le = tt
finish_sound n h at (b ∷ bs) p le = placed_sound n h (at - length (b ∷ bs)) p (item_of h (reverse (b ∷ bs))) (omega arith)

ended_sound : (n at : ℕ) (fs : List Form) (os : List Open) → at ≤ n → Sound n (ended at fs os)
ended_sound n at fs [] le = tt
ended_sound n at fs (o ∷ os) le = (le, lit≤ tt, lit≤ tt)

scan_sound : (n : ℕ) (h : Home) (bytes : List ℕ) (at : ℕ) (pending : List ℕ) (p : Progress) → at + length bytes ≤ n → Sound n (scan h bytes at pending p)
unfolding scan
scan_sound n h [] at pending p le =
    then_sound n (finish h at pending p) (λ q. ended at q.forms q.opened) (finish_sound n h at pending p (omega arith))
    (λ q. ended_sound n at q.forms q.opened (omega arith))
scan_sound n h (b ∷ bs) at pending p le =
    cond_sound n (item_byte b) (scan h bs (at + 1) (b ∷ pending) p) _ (scan_sound n h bs (at + 1) (b ∷ pending) p (omega arith))
    (then_sound n (finish h at pending p) (λ q. ◌>>=◌ (mark h b at q) (λ r. scan h bs (at + 1) [] r)) (finish_sound n h at pending p (omega arith))
    (λ q. then_sound n (mark h b at q) (λ r. scan h bs (at + 1) [] r) (mark_sound n h b at q (omega arith))
    (λ r. scan_sound n h bs (at + 1) [] r (omega arith))))

read_sound : (h : Home) (bytes : List ℕ) (c : Cause) (at : ℕ) → read h bytes ≡ refused c at → (at ≤ length bytes) × (10 ≤ number_of c) × (number_of c ≤ 13)
read_sound h bytes c at e =
    let P : Read (List Form) → Type 0 = λ r. Sound (length bytes) r in
    subst P e (scan_sound (length bytes) h bytes 0 [] nothing_read (omega arith))

pub faults_lie_within : FaultsLieWithin
faults_lie_within h bytes c at e = (read_sound h bytes c at e).0

pub refuses_as_reading : RefusesAsReading
refuses_as_reading h bytes c at e = ((read_sound h bytes c at e).1, (read_sound h bytes c at e).2)

-- lists still open, with each word moved to one home
abbrev rehomed_open : Home → Open → Open
rehomed_open h (bracket ds) = bracket (map (rehomed h) ds)
rehomed_open h quoted = quoted

abbrev rehomed_progress : Home → Progress → Progress
rehomed_progress h p = record { opened = map (rehomed_open h) p.opened; begun = p.begun; forms = map (rehomed_form h) p.forms }

abbrev rehomed_item : Home → Option Datum → Option Datum
rehomed_item h None = None
rehomed_item h (Some d) = Some (rehomed h d)

reverse_aux-map : {A B : Type 0} (f : A → B) (xs ys : List A) → reverse_aux (map f xs) (map f ys) ≡ map f (reverse_aux xs ys)
reverse_aux-map f [] ys = refl
reverse_aux-map f (x ∷ xs) ys = reverse_aux-map f xs (x ∷ ys)

reverse-map : {A B : Type 0} (f : A → B) (xs : List A) → reverse (map f xs) ≡ map f (reverse xs)
reverse-map f xs = reverse_aux-map f xs []

then_alike : {A B C D : Type 0} (u : A → C) (v : B → D) (x : Read C) (y : Read A) (f : C → Read D) (k : A → Read B) → x ≡ mapped u y → ((a : A) → f (u a) ≡ mapped v (k a)) → ◌>>=◌ x f ≡ mapped v (◌>>=◌ y k)
then_alike u v x (reads a) f k e h = ap (λ z. ◌>>=◌ z f) e ∙ h a
then_alike u v x (refused c at) f k e h = ap (λ z. ◌>>=◌ z f) e

cond_alike : {A B : Type 0} (f : A → B) (b : Bool) (x y : Read B) (v w : Read A) → x ≡ mapped f v → y ≡ mapped f w → cond b x y ≡ mapped f (cond b v w)
cond_alike f true x y v w p q = p
cond_alike f false x y v w p q = q

module _ (g h : Home) where
  list_of_alike : (ds : List Datum) → list_of (map (rehomed h) ds) ≡ rehomed h (list_of ds)
  list_of_alike [] = refl
  list_of_alike (d ∷ ds) = ap (λ e. Datum.pair (rehomed h d) e) (list_of_alike ds)

  settle_alike : (begun : ℕ) (fs : List Form) (os : List Open) (d : Datum) → settle h begun (map (rehomed_form h) fs) (map (rehomed_open h) os) (rehomed h d) ≡ rehomed_progress h (settle g begun fs os d)
  settle_alike begun fs [] d = refl
  settle_alike begun fs (bracket ds ∷ more) d = refl
  settle_alike begun fs (quoted ∷ more) d = settle_alike begun fs more (quote_of g d)

  start_alike : (os : List Open) (begun at : ℕ) → start (map (rehomed_open h) os) begun at ≡ start os begun at
  start_alike [] begun at = refl
  start_alike (o ∷ os) begun at = refl

  nest_alike : (p : Progress) (at : ℕ) (o : Open) → nest (rehomed_progress h p) at (rehomed_open h o) ≡ mapped (rehomed_progress h) (nest p at o)
  nest_alike p at o =
      simp (length-map, start_alike) (cond_alike (rehomed_progress h) (leb 64 (length p.opened)) _ _ _ _ refl refl)

  close_alike : (at begun : ℕ) (fs : List Form) (os : List Open) → close h at begun (map (rehomed_form h) fs) (map (rehomed_open h) os) ≡ mapped (rehomed_progress h) (close g at begun fs os)
  close_alike at begun fs [] = refl
  close_alike at begun fs (quoted ∷ more) = refl
  close_alike at begun fs (bracket ds ∷ more) =
      ap (λ d. reads (settle h begun (map (rehomed_form h) fs) (map (rehomed_open h) more) d)) (ap list_of (reverse-map (rehomed h) ds) ∙ list_of_alike (reverse ds)) ∙ ap reads (settle_alike begun fs more (list_of (reverse ds)))

  mark_alike : (b at : ℕ) (p : Progress) → mark h b at (rehomed_progress h p) ≡ mapped (rehomed_progress h) (mark g b at p)
  mark_alike b at p =
      cond_alike (rehomed_progress h) (eqb b 32 || eqb b 10) _ _ _ _ refl
      (cond_alike (rehomed_progress h) (eqb b 40) _ _ _ _ (nest_alike p at (bracket []))
      (cond_alike (rehomed_progress h) (eqb b 39) _ _ _ _ (nest_alike p at quoted)
      (cond_alike (rehomed_progress h) (eqb b 41) _ _ _ _ (close_alike at p.begun p.forms p.opened) refl)))

  number_alike : (z : Option ℤ) → numbered z ≡ rehomed_item h (numbered z)
  number_alike None = refl
  number_alike (Some z) = refl

  item_alike : (w : Spelling) → item_of h w ≡ rehomed_item h (item_of g w)
  item_alike w = by (is_word w)
    where
      by : (b : Bool) → cond b (Some (Datum.word w h)) (numbered (numeral w)) ≡ rehomed_item h (cond b (Some (Datum.word w g)) (numbered (numeral w)))
      by true = refl
      by false = number_alike (numeral w)

  placed_alike : (at : ℕ) (p : Progress) (d : Option Datum) → placed h at (rehomed_progress h p) (rehomed_item h d) ≡ mapped (rehomed_progress h) (placed g at p d)
  placed_alike at p None = refl
  placed_alike at p (Some d) =
      ap (λ n. reads (settle h n (map (rehomed_form h) p.forms) (map (rehomed_open h) p.opened) (rehomed h d))) (start_alike p.opened p.begun at) ∙ ap reads (settle_alike (start p.opened p.begun at) p.forms p.opened d)

  finish_alike : (at : ℕ) (pending : List ℕ) (p : Progress) → finish h at pending (rehomed_progress h p) ≡ mapped (rehomed_progress h) (finish g at pending p)
  finish_alike at [] p = refl
  finish_alike at (b ∷ bs) p =
      ap (λ d. placed h (at - length (b ∷ bs)) (rehomed_progress h p) d) (item_alike (reverse (b ∷ bs))) ∙ placed_alike (at - length (b ∷ bs)) p (item_of g (reverse (b ∷ bs)))

  ended_alike : (at : ℕ) (fs : List Form) (os : List Open) → ended at (map (rehomed_form h) fs) (map (rehomed_open h) os) ≡ rehomed_read h (ended at fs os)
  ended_alike at fs [] = ap reads (reverse-map (rehomed_form h) fs)
  ended_alike at fs (o ∷ os) = refl

  scan_alike : (bytes : List ℕ) (at : ℕ) (pending : List ℕ) (p : Progress) → scan h bytes at pending (rehomed_progress h p) ≡ rehomed_read h (scan g bytes at pending p)
  unfolding scan
  scan_alike [] at pending p =
      then_alike (rehomed_progress h) (map (rehomed_form h)) (finish h at pending (rehomed_progress h p)) (finish g at pending p) (λ q. ended at q.forms q.opened) (λ q. ended at q.forms q.opened) (finish_alike at pending p)
      (λ q. ended_alike at q.forms q.opened)
  scan_alike (b ∷ bs) at pending p =
      cond_alike (map (rehomed_form h)) (item_byte b) _ _ _ _ (scan_alike bs (at + 1) (b ∷ pending) p)
      (then_alike (rehomed_progress h) (map (rehomed_form h)) (finish h at pending (rehomed_progress h p)) (finish g at pending p) (λ q. ◌>>=◌ (mark h b at q) (λ r. scan h bs (at + 1) [] r)) (λ q. ◌>>=◌ (mark g b at q) (λ r. scan g bs (at + 1) [] r)) (finish_alike at pending p)
      (λ q. then_alike (rehomed_progress h) (map (rehomed_form h)) (mark h b at (rehomed_progress h q)) (mark g b at q) (λ r. scan h bs (at + 1) [] r) (λ r. scan g bs (at + 1) [] r) (mark_alike b at q)
      (λ r. scan_alike bs (at + 1) [] r)))

pub reads_by_bytes_and_home : ReadsByBytesAndHome
reads_by_bytes_and_home g h bytes = scan_alike g h bytes 0 [] nothing_read
