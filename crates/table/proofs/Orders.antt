-- The order of the definition has each node once, all that the root reaches and no other, successors first.
use Rattle.std.proofs.Common.{◌≡◌, ℕ, zero, suc, Bool, true, false, cond, ◌⊎◌, List, [], ◌∷◌, length, Some, None, Ok, Err, Option, Result, sym, refl, ap, ◌∙◌, subst, inl, inr, ⊎_elim, arith, length-append}
use Rattle.std.proofs.lemmas.Bool.{or_cases, or_left, or_right, false≢true}
use Rattle.table.specs.Graphs.{Steady, Reaches, at_once, by_way, Acyclic, Reachable, Once, SuccessorsFirst, RequiredFirst}
use Rattle.table.specs.Order.{Plan, Stop, Walked, Follows, nothing_met, among, after, unless, entered, done_with, along, opened, through, meet, step, walk}
use Rattle.std.specs.Cmp.{IsEquivalence}
use Rattle.table.proofs.Amongs.{in_or_out, in_left, in_last, in_push, out_push, among_same, once_push, first_push}

-- what came of a part

after_ok : {X Y E : Type 0} (x : Result X E) (go : X → Result Y E) (y : Y) → after x go ≡ Ok y → (v : X) × (x ≡ Ok v) × (go v ≡ Ok y)
after_ok (Ok v) go y h = (v, refl, h)
after_ok (Err e) go y h = absurd (let z : ◌≡◌ {A = ℕ} 0 1 = cc in omega arith)

same_ok : {X E : Type 0} (x y : X) → ◌≡◌ {A = Result X E} (Ok x) (Ok y) → x ≡ y
same_ok x y h = cc

unless_ok : {X N R : Type 0} (o : Option R) (x y : X) → ◌≡◌ {A = Result X (Stop N R)} (unless o x) (Ok y) → x ≡ y
unless_ok None x y h = cc
unless_ok (Some r) x y h = absurd (let z : ◌≡◌ {A = ℕ} 0 1 = cc in omega arith)

-- paths

joined : {N : Type 0} {like : N → N → Bool} {next : N → List N} (a b : N) {c : N} → Reaches like next a b → Reaches like next b c → Reaches like next a c
joined a b r (at_once c e) = by_way b c r e
joined a b r (by_way v c q e) = by_way v c (joined a b r q) e

-- what holds of the nodes met and ended

record Sound {N : Type 0} (like : N → N → Bool) (next : N → List N) (root : N) (k : Walked N) : Type 0 where
  pub inside : (x : N) → among like x k.ended ≡ true → among like x k.met ≡ true
  pub once : Once like k.ended
  pub reached : Steady like next → (x : N) → among like x k.met ≡ true → Reachable like next root x
  pub closed : Steady like next → (x s : N) → among like x k.ended ≡ true → among like s (next x) ≡ true → among like s k.met ≡ true
  pub before : Steady like next → Acyclic like next → SuccessorsFirst like next k.ended

-- what a node that was followed leaves: what was open still is, and what is new has ended
record Grown {N : Type 0} (like : N → N → Bool) (k j : Walked N) : Type 0 where
  pub met : (x : N) → among like x k.met ≡ true → among like x j.met ≡ true
  pub ended : (x : N) → among like x k.ended ≡ true → among like x j.ended ≡ true
  pub open_still : (x : N) → among like x k.met ≡ true → among like x k.ended ≡ false → among like x j.ended ≡ false
  pub new_ended : (x : N) → among like x j.met ≡ true → (among like x j.ended ≡ true) ⊎ (among like x k.met ≡ true)

-- a node that is to be followed: the root reaches it, and so does what is open
record Asked {N : Type 0} (like : N → N → Bool) (next : N → List N) (root n : N) (k : Walked N) : Type 0 where
  pub reachable : Steady like next → Reachable like next root n
  pub below : Steady like next → (x : N) → among like x k.met ≡ true → among like x k.ended ≡ false → Reaches like next x n

record Followed {N : Type 0} (like : N → N → Bool) (next : N → List N) (root : N) (k j : Walked N) : Type 0 where
  pub sound : Sound like next root j
  pub grown : Grown like k j

grown_same : {N : Type 0} (like : N → N → Bool) (k : Walked N) → Grown like k k
grown_same like k = record { met = λ x h. h; ended = λ x h. h; open_still = λ x h e. e; new_ended = λ x h. inr h }

grown_on : {N : Type 0} (like : N → N → Bool) (i k j : Walked N) → Grown like i k → Grown like k j → Grown like i j
grown_on like i k j a b = record {
  met = λ x h. b.met x (a.met x h);
  ended = λ x h. b.ended x (a.ended x h);
  open_still = λ x h e. b.open_still x (a.met x h) (a.open_still x h e);
  new_ended = λ x h. ⊎_elim inl (λ m. ⊎_elim (λ e. inl (b.ended x e)) inr (a.new_ended x m)) (b.new_ended x h);
}

-- what is open later was open before
open_before : {N : Type 0} (like : N → N → Bool) (k j : Walked N) → Grown like k j → (x : N) → among like x j.met ≡ true → among like x j.ended ≡ false → (among like x k.met ≡ true) × (among like x k.ended ≡ false)
open_before like k j a x m e = (
  ⊎_elim (λ h. absurd (false≢true (sym e ∙ h))) (λ h. h) (a.new_ended x m),
  ⊎_elim (λ h. absurd (false≢true (sym e ∙ a.ended x h))) (λ h. h) (in_or_out (among like x k.ended)),
)

abbrev Holds : {N R : Type 0} → (N → N → Bool) → (N → List N) → N → Follows N R → Type 0
Holds {N = N} like next root go = (n : N) (k j : Walked N) → Sound like next root k → Asked like next root n k → go n k ≡ Ok j → Followed like next root k j × (among like n j.met ≡ true)

-- one node after another
along_holds : {N R : Type 0} (like : N → N → Bool) (same : IsEquivalence like) (next : N → List N) (root : N) (go : Follows N R) → Holds like next root go → (ns : List N) (k j : Walked N) → Sound like next root k → ((s : N) → among like s ns ≡ true → Asked like next root s k) → along go ns k ≡ Ok j → Followed like next root k j × ((s : N) → among like s ns ≡ true → among like s j.met ≡ true)
along_holds like same next root go holds [] k j s a e =
    let is = same_ok k j e in
    subst (λ (i : Walked _). Followed like next root k i × ((x : _) → among like x [] ≡ true → among like x i.met ≡ true)) is (record { sound = s; grown = grown_same like k }, λ x h. absurd (false≢true h))
along_holds like same next root go holds (n ∷ ns) k j s a e =
    let o = after_ok (go n k) (along go ns) j e in
    let f = holds n k o.0 s (a n (or_left _ _ (same.refl n))) o.1 in
    let g = f.0.grown in
    let r = along_holds like same next root go holds ns o.0 j f.0.sound (λ x h. let b = a x (or_right _ _ h) in record { reachable = b.reachable; below = λ st y m u. let w = open_before like k o.0 g y m u in b.below st y w.0 w.1 }) o.2 in (
      record { sound = r.0.sound; grown = grown_on like k o.0 j g r.0.grown },
      λ x h. ⊎_elim (λ t. r.0.grown.met x (among_same like same x n o.0.met t ∙ f.1)) (r.1 x) (or_cases _ _ h),
    )

module _ {N : Type 0} (like : N → N → Bool) (same : IsEquivalence like) (next : N → List N) (root n : N) where
  reach_same : (x : N) → like x n ≡ true → Reachable like next root n → Reachable like next root x
  reach_same x t (inl e) = inl (same.congr x n root t ∙ e)
  reach_same x t (inr r) = inr (by_last r)
    where
      by_last : Reaches like next root n → Reaches like next root x
      by_last (at_once _ e) = at_once x (among_same like same x n (next root) t ∙ e)
      by_last (by_way v _ q e) = by_way v x q (among_same like same x n (next v) t ∙ e)

  -- a node is met
  entered_sound : (k : Walked N) → Sound like next root k → Asked like next root n k → Sound like next root (entered n k)
  entered_sound k s a = record {
    inside = λ x h. in_left like x n k.met (s.inside x h);
    once = s.once;
    reached = λ st x h. ⊎_elim (s.reached st x) (λ t. reach_same x t (a.reachable st)) (in_push like x n k.met h);
    closed = λ st x y h i. in_left like y n k.met (s.closed st x y h i);
    before = s.before;
  }

  -- its successors are to be followed
  entered_asks : (k : Walked N) → Asked like next root n k → (y : N) → among like y (next n) ≡ true → Asked like next root y (entered n k)
  entered_asks k a y i = record {
    reachable = λ st. ⊎_elim (λ t. inr (at_once y (sym (ap (among like y) (st n root t)) ∙ i))) (λ q. inr (by_way n y q i)) (a.reachable st);
    below = λ st x m u. ⊎_elim (λ h. by_way n y (a.below st x h u) i) (λ t. at_once y (ap (among like y) (st x n t) ∙ i)) (in_push like x n k.met m);
  }

  module _ (k j : Walked N) (a : Asked like next root n k) (not-ended : among like n k.ended ≡ false) (not-met : among like n k.met ≡ false) (f : Followed like next root (entered n k) j) (all : (y : N) → among like y (next n) ≡ true → among like y j.met ≡ true) where
    in_met : among like n (entered n k).met ≡ true
    in_met = in_last like n n k.met (same.refl n)

    is_met : among like n j.met ≡ true
    is_met = f.grown.met n in_met

    -- a successor that is still open would reach itself
    no_way : Steady like next → Acyclic like next → (m : N) → among like m (next n) ≡ true → among like m j.ended ≡ false → ⊥
    no_way st acyclic m e o =
        let w = open_before like (entered n k) j f.grown m (all m e) o in
        ⊎_elim (λ h. acyclic n (joined n m (at_once m e) (a.below st m h w.1))) (λ t. acyclic n (at_once n (among_same like same n m (next n) (same.symm n m ∙ t) ∙ e))) (in_push like m n k.met w.0)

    done_sound : Sound like next root (done_with n j)
    done_sound = record {
      inside = λ x h. ⊎_elim (f.sound.inside x) (λ t. among_same like same x n j.met t ∙ is_met) (in_push like x n j.ended h);
      once = once_push like same n j.ended f.sound.once (f.grown.open_still n in_met not-ended);
      reached = f.sound.reached;
      closed = λ st x y h e. ⊎_elim (λ w. f.sound.closed st x y w e) (λ t. all y (sym (ap (among like y) (st x n t)) ∙ e)) (in_push like x n j.ended h);
      before = λ st acyclic. first_push like next j.ended n (f.sound.before st acyclic) (λ m e. ⊎_elim (λ h. h) (λ o. absurd (no_way st acyclic m e o)) (in_or_out (among like m j.ended)));
    }

    done_grown : Grown like k (done_with n j)
    done_grown = record {
      met = λ x h. f.grown.met x (in_left like x n k.met h);
      ended = λ x h. in_left like x n j.ended (f.grown.ended x h);
      open_still = λ x h e. out_push like x n j.ended (f.grown.open_still x (in_left like x n k.met h) e) (⊎_elim (λ t. absurd (false≢true (sym not-met ∙ sym (among_same like same x n k.met t) ∙ h))) (λ o. o) (in_or_out (like x n)));
      new_ended = λ x h. ⊎_elim (λ e. inl (in_left like x n j.ended e)) (λ m. ⊎_elim inr (λ t. inl (in_last like x n j.ended t)) (in_push like x n k.met m)) (f.grown.new_ended x h);
    }

module _ {N R : Type 0} (like : N → N → Bool) (same : IsEquivalence like) (p : Plan N R) (root : N) where
  -- a node that is met first
  meet_holds : (go : Follows N R) → Holds like p.successors root go → (n : N) (k j : Walked N) → Sound like p.successors root k → Asked like p.successors root n k → among like n k.ended ≡ false → among like n k.met ≡ false → meet p go n k ≡ Ok j → Followed like p.successors root k j × (among like n j.met ≡ true)
  meet_holds go holds n k j s a not-ended not-met e =
      let o = after_ok (opened p n (length k.met)) (through go n k) j e in
      let ns = unless_ok (p.meeting n (length k.met)) (p.successors n) o.0 o.1 in
      let t = after_ok (along go o.0 (entered n k)) (λ i. Ok (done_with n i)) j o.2 in
      let w = along_holds like same p.successors root go holds (p.successors n) (entered n k) t.0 (entered_sound like same p.successors root n k s a) (entered_asks like same p.successors root n k a) (ap (λ l. along go l (entered n k)) ns ∙ t.1) in
      let is = same_ok (done_with n t.0) j t.2 in
      let P : Walked N → Type 0 = λ i. Followed like p.successors root k i × (among like n i.met ≡ true) in
      subst P is (record { sound = done_sound like same p.successors root n k t.0 a not-ended not-met w.0 w.1; grown = done_grown like same p.successors root n k t.0 a not-ended not-met w.0 w.1 }, is_met like same p.successors root n k t.0 a not-ended not-met w.0 w.1)

  step_holds : (go : Follows N R) → Holds like p.successors root go → Holds like p.successors root (step like p go)
  step_holds go holds n k j s a e = by_end (among like n k.ended) refl e
    where
      stays : among like n k.met ≡ true → k ≡ j → Followed like p.successors root k j × (among like n j.met ≡ true)
      stays m is = let P : Walked N → Type 0 = λ i. Followed like p.successors root k i × (among like n i.met ≡ true) in subst P is (record { sound = s; grown = grown_same like k }, m)

      by_met : (b : Bool) → among like n k.ended ≡ false → among like n k.met ≡ b → cond b (unless (p.cycle n) k) (meet p go n k) ≡ Ok j → Followed like p.successors root k j × (among like n j.met ≡ true)
      by_met true o m h = stays m (unless_ok (p.cycle n) k j h)
      by_met false o m h = meet_holds go holds n k j s a o m h

      by_end : (b : Bool) → among like n k.ended ≡ b → cond b (Ok k) (cond (among like n k.met) (unless (p.cycle n) k) (meet p go n k)) ≡ Ok j → Followed like p.successors root k j × (among like n j.met ≡ true)
      by_end true o h = stays (s.inside n o) (same_ok k j h)
      by_end false o h = by_met (among like n k.met) o refl h

  walk_holds : (left : ℕ) → Holds like p.successors root (walk like p left)
  walk_holds zero n k j s a e = absurd (let z : ◌≡◌ {A = ℕ} 0 1 = cc in omega arith)
  walk_holds (suc left) n k j s a e = step_holds (walk like p left) (walk_holds left) n k j s a e

  start_sound : Sound like p.successors root nothing_met
  start_sound = record {
    inside = λ x h. h;
    once = tt;
    reached = λ st x h. absurd (false≢true h);
    closed = λ st x y h i. absurd (false≢true h);
    before = λ st acyclic front x rest e. absurd (omega (arith, ap length e, length-append front (x ∷ rest)));
  }

  module _ (depth : ℕ) (k : Walked N) (e : walk like p depth root nothing_met ≡ Ok k) where
    whole : Followed like p.successors root nothing_met k × (among like root k.met ≡ true)
    whole = walk_holds depth root nothing_met k start_sound (record { reachable = λ st. inl (same.refl root); below = λ st x h u. absurd (false≢true h) }) e

    all_end : (x : N) → among like x k.met ≡ true → among like x k.ended ≡ true
    all_end x h = ⊎_elim (λ i. i) (λ i. absurd (false≢true i)) (whole.0.grown.new_ended x h)

    all_reached : Steady like p.successors → (x : N) → Reaches like p.successors root x → among like x k.ended ≡ true
    all_reached st x (at_once _ i) = all_end x (whole.0.sound.closed st root x (all_end root whole.1) i)
    all_reached st x (by_way v _ q i) = all_end x (whole.0.sound.closed st v x (all_reached st v q) i)

    pub is_required_first : Steady like p.successors → RequiredFirst like p.successors root k.ended
    is_required_first st = record {
      once = whole.0.sound.once;
      reached = λ x h. whole.0.sound.reached st x (whole.0.sound.inside x h);
      all = λ x. ⊎_elim (λ t. among_same like same x root k.ended t ∙ all_end root whole.1) (all_reached st x);
      before = whole.0.sound.before st;
    }

    pub is_once : Once like k.ended
    is_once = whole.0.sound.once
