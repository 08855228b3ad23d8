-- The walk of the code against the definition, exit by exit.
use Rattle.std.proofs.Common.{◌≡◌, ℕ, zero, suc, ◌+◌, ◌-◌, ◌<◌, ◌≤◌, Bool, true, false, cond, List, [], ◌∷◌, ◌++◌, length, get_or, drop, IsErrAnd, IfOk, Some, None, Ok, Err, Option, Result, sym, refl, ap, ◌∙◌, subst, arith}
use Rattle.std.proofs.lemmas.List.{drop_all}
use Rattle.std.proofs.lemmas.Result.{err_from_is_err_and}
use Rattle.table.specs.declared.order.Halt.{Halt}
use Rattle.table.specs.declared.order.Halt.TheVariants.{Refused, TooDeep, Memory}
use Rattle.table.specs.Order.{Plan, Stop, refuses, too_deep, Walked, Follows, nothing_met, among, after, unless, done_with, along, opened, through, meet, step, walk, order}
use Rattle.table.specs.Outcomes.{Gave, Passed}
use Rattle.table.proofs.Entries.{at_item}

-- outcomes

module _ {X Y N R : Type 0} (P : X → Y → Type 0) where
  -- want of memory may come anywhere
  pub no_memory : (x : Result X (Stop N R)) → Gave P x (Err Memory)
  no_memory (Ok x) = tt
  no_memory (Err (refuses r)) = tt
  no_memory (Err (too_deep n)) = tt

  -- the exit of a `?`
  pub exits : (x : Result X (Stop N R)) (r : Result Y (Halt N R)) (h : Halt N R) → IsErrAnd r (λ y. y ≡ h) → Gave P x (Err h) → Gave P x r
  exits x r h e g = let b = err_from_is_err_and r e in subst (λ (q : Result Y (Halt N R)). Gave P x q) (sym (b.1 ∙ ap Err b.2)) g

  pub exits_empty : (x : Result X (Stop N R)) (r : Result Y (Halt N R)) → IsErrAnd r (λ y. y ≡ Memory) → Gave P x r
  exits_empty x r e = exits x r Memory e (no_memory x)

module _ {V X Y Z N R : Type 0} (P : X → Y → Type 0) (Q : V → Z → Type 0) where
  -- what stops a part stops the whole
  pub stops : (x : Result V (Stop N R)) (go : V → Result X (Stop N R)) (h : Halt N R) → Gave Q x (Err h) → Gave P (after x go) (Err h)
  stops (Ok v) go (Refused q) g = absurd g
  stops (Ok v) go (TooDeep m) g = absurd g
  stops (Ok v) go Memory g = no_memory P (go v)
  stops (Err s) go h g = g

pub went : {V Z N R : Type 0} (Q : V → Z → Type 0) (x : Result V (Stop N R)) (z : Z) → Gave Q x (Ok z) → (v : V) × (x ≡ Ok v) × Q v z
went Q (Ok v) z g = (v, refl, g)
went Q (Err s) z g = absurd g

passed : {X Y N R : Type 0} (k : X) (o : Option R) (r : Result Y (Halt N R)) → Passed o r → Gave (λ j _. k ≡ j) (unless o k) r
passed k None (Ok y) h = refl
passed k None (Err e) h = h
passed k (Some q) (Ok y) h = absurd h
passed k (Some q) (Err e) h = h

-- a node is met

module _ {N R : Type 0} (like : N → N → Bool) (p : Plan N R) (left : ℕ) (some : left ≡ 0 → ⊥) (n : N) (k : Walked N) where
  stepped : walk like p left n k ≡ step like p (walk like p (left - 1)) n k
  stepped = by_case left some
    where
      by_case : (l : ℕ) → (l ≡ 0 → ⊥) → walk like p l n k ≡ step like p (walk like p (l - 1)) n k
      by_case zero h = absurd (h refl)
      by_case (suc l) h = let e : l ≡ suc l - 1 = omega arith in ap (λ j. step like p (walk like p j) n k) e

  pub has_ended : (es : List N) → es ≡ k.ended → true ≡ among like n es → Gave (λ j (_ : Unit {0}). k ≡ j) (walk like p left n k) (Ok tt)
  has_ended es e t =
      let w : walk like p left n k ≡ Ok k = stepped ∙ ap (λ b. cond b (Ok k) (cond (among like n k.met) (unless (p.cycle n) k) (meet p (walk like p (left - 1)) n k))) (sym (t ∙ ap (among like n) e)) in
      subst (λ (x : Result (Walked N) (Stop N R)). Gave (λ j (_ : Unit {0}). k ≡ j) x (Ok tt)) (sym w) refl

  -- it has not ended
  later : (es : List N) → es ≡ k.ended → false ≡ among like n es → walk like p left n k ≡ cond (among like n k.met) (unless (p.cycle n) k) (meet p (walk like p (left - 1)) n k)
  later es e t = stepped ∙ ap (λ b. cond b (Ok k) (cond (among like n k.met) (unless (p.cycle n) k) (meet p (walk like p (left - 1)) n k))) (sym (t ∙ ap (among like n) e))

  pub met_again : {Y : Type 0} (es ms : List N) (r : Result Y (Halt N R)) → es ≡ k.ended → false ≡ among like n es → ms ≡ k.met → true ≡ among like n ms → Passed (p.cycle n) r → Gave (λ j _. k ≡ j) (walk like p left n k) r
  met_again es ms r e f m t h =
      let w = later es e f ∙ ap (λ b. cond b (unless (p.cycle n) k) (meet p (walk like p (left - 1)) n k)) (sym (t ∙ ap (among like n) m)) in
      subst (λ (x : Result (Walked N) (Stop N R)). Gave (λ j _. k ≡ j) x r) (sym w) (passed k (p.cycle n) r h)

  first_met : (es ms : List N) → es ≡ k.ended → false ≡ among like n es → ms ≡ k.met → false ≡ among like n ms → walk like p left n k ≡ meet p (walk like p (left - 1)) n k
  first_met es ms e f m t = later es e f ∙ ap (λ b. cond b (unless (p.cycle n) k) (meet p (walk like p (left - 1)) n k)) (sym (t ∙ ap (among like n) m))

  pub not_opened : {Y Z : Type 0} (P : Walked N → Y → Type 0) (Q : List N → Z → Type 0) (es ms : List N) (r : Result Y (Halt N R)) (h : Halt N R) (met : ℕ) → es ≡ k.ended → false ≡ among like n es → ms ≡ k.met → false ≡ among like n ms → met ≡ length k.met → Gave Q (opened p n met) (Err h) → IsErrAnd r (λ y. y ≡ h) → Gave P (walk like p left n k) r
  not_opened P Q es ms r h met e f m t l g x =
      let w = first_met es ms e f m t in
      let g2 = subst (λ (i : ℕ). Gave Q (opened p n i) (Err h)) l g in
      exits P _ r h x (subst (λ (y : Result (Walked N) (Stop N R)). Gave P y (Err h)) (sym w) (stops P Q (opened p n (length k.met)) (through (walk like p (left - 1)) n k) h g2))

  -- its successors are asked for, and it is on the list of those met
  pub begun : {Z : Type 0} (Q : List N → Z → Type 0) (es ms : List N) (met : ℕ) (z : Z) (p2 : Plan N R) (ns mets : List N) → es ≡ k.ended → false ≡ among like n es → ms ≡ k.met → false ≡ among like n ms → met ≡ length k.met → Gave Q (opened p n met) (Ok z) → ((l : List N) → Q l z → ns ≡ l) → p2 ≡ p → mets ≡ k.met ++ (n ∷ []) → walk like p left n k ≡ after (along (walk like p2 (left - 1)) ns (record { met = mets; ended = k.ended })) (λ j. Ok (done_with n j))
  begun Q es ms met z p2 ns mets e f m t l g q s b =
      let o = went Q (opened p n met) z g in
      first_met es ms e f m t
      ∙ ap (λ x. after x (through (walk like p (left - 1)) n k)) (ap (opened p n) (sym l) ∙ o.1 ∙ ap Ok (sym (q o.0 o.2)))
      ∙ ap (λ ws. after (along (walk like p (left - 1)) ns (record { met = ws; ended = k.ended })) (λ j. Ok (done_with n j))) (sym b)
      ∙ ap (λ r. after (along (walk like r (left - 1)) ns (record { met = mets; ended = k.ended })) (λ j. Ok (done_with n j))) (sym s)

-- its successors are followed

module _ {N R : Type 0} (like : N → N → Bool) (left : ℕ) (p now : Plan N R) (ns : List N) (i : ℕ) (n : N) (k : Walked N) (whole : Result (Walked N) (Stop N R)) where
  next_of : now ≡ p → i < length ns → n ≡ get_or ns i n → along (walk like p left) (drop i ns) k ≡ whole → after (walk like now left n k) (along (walk like p left) (drop (i + 1) ns)) ≡ whole
  next_of s h is inv =
      ap (λ q. after (walk like q left n k) (along (walk like p left) (drop (i + 1) ns))) s
      ∙ sym (ap (λ l. along (walk like p left) l k) (at_item ns i n n h is refl))
      ∙ inv

  pub one_followed : {Z : Type 0} (z : Z) (j : Walked N) → now ≡ p → i < length ns → n ≡ get_or ns i n → Gave (λ w _. j ≡ w) (walk like now left n k) (Ok z) → along (walk like p left) (drop i ns) k ≡ whole → along (walk like p left) (drop (i + 1) ns) j ≡ whole
  one_followed z j s h is g inv =
      let o = went (λ w _. j ≡ w) (walk like now left n k) z g in
      ap (along (walk like p left) (drop (i + 1) ns)) o.2
      ∙ sym (ap (λ x. after x (along (walk like p left) (drop (i + 1) ns))) o.1)
      ∙ next_of s h is inv

  pub one_stopped : {X Y Z : Type 0} (P : X → Y → Type 0) (Q : Walked N → Z → Type 0) (r : Result Y (Halt N R)) (h : Halt N R) (w : Result X (Stop N R)) (end : Walked N → Result X (Stop N R)) → now ≡ p → i < length ns → n ≡ get_or ns i n → Gave Q (walk like now left n k) (Err h) → along (walk like p left) (drop i ns) k ≡ whole → w ≡ after whole end → IsErrAnd r (λ y. y ≡ h) → Gave P w r
  one_stopped P Q r h w end s lt is g inv is-w x =
      let whole_is = sym (next_of s lt is inv) in
      exits P w r h x
      (subst (λ (y : Result _ (Stop N R)). Gave P y (Err h)) (sym (is-w ∙ ap (λ y. after y end) whole_is))
      (stops P (λ (_ : Walked N) (_ : Unit {0}). Unit {0}) (after (walk like now left n k) (along (walk like p left) (drop (i + 1) ns))) end h
      (stops (λ (_ : Walked N) (_ : Unit {0}). Unit {0}) Q (walk like now left n k) (along (walk like p left) (drop (i + 1) ns)) h g)))

-- all have been followed
pub all_followed : {N R Y : Type 0} (go : Follows N R) (ns : List N) (i : ℕ) (n : N) (k : Walked N) (whole w : Result (Walked N) (Stop N R)) (ends : List N) (y : Y) → length ns ≤ i → along go (drop i ns) k ≡ whole → w ≡ after whole (λ j. Ok (done_with n j)) → ends ≡ k.ended ++ (n ∷ []) → Gave (λ j _. record { met = k.met; ended = ends } ≡ j) w (Ok y)
all_followed go ns i n k whole w ends y h inv is-w e =
    let d : Ok k ≡ whole = sym (ap (λ l. along go l k) (drop_all i ns h)) ∙ inv in
    let is : w ≡ Ok (done_with n k) = is-w ∙ ap (λ x. after x (λ j. Ok (done_with n j))) (sym d) in
    subst (λ (x : Result (Walked _) (Stop _ _)). Gave (λ j _. record { met = k.met; ended = ends } ≡ j) x (Ok y)) (sym is) (ap (λ l. record { met = k.met; ended = l }) e)

-- the whole order

module _ {N R : Type 0} (like : N → N → Bool) (p : Plan N R) (depth : ℕ) (root : N) where
  pub order_stopped : {Y Z : Type 0} (P : List N → Y → Type 0) (Q : Walked N → Z → Type 0) (r : Result Y (Halt N R)) (h : Halt N R) (k : Walked N) → k ≡ nothing_met → Gave Q (walk like p depth root k) (Err h) → IsErrAnd r (λ y. y ≡ h) → Gave P (order like p depth root) r
  order_stopped P Q r h k e g x =
      exits P (order like p depth root) r h x (stops P Q (walk like p depth root nothing_met) (λ j. Ok j.ended) h (subst (λ (i : Walked N). Gave Q (walk like p depth root i) (Err h)) e g))

  pub order_came : {Z : Type 0} (z : Z) (k j : Walked N) → k ≡ nothing_met → Gave (λ i _. j ≡ i) (walk like p depth root k) (Ok z) → walk like p depth root nothing_met ≡ Ok j
  order_came z k j e g = let o = went (λ i _. j ≡ i) (walk like p depth root k) z g in ap (walk like p depth root) (sym e) ∙ o.1 ∙ ap Ok (sym o.2)

  pub order_is : {Y : Type 0} (P : List N → Y → Type 0) (y : Y) (j : Walked N) → walk like p depth root nothing_met ≡ Ok j → P j.ended y → Gave P (order like p depth root) (Ok y)
  order_is P y j e h = subst (λ (x : Result (Walked N) (Stop N R)). Gave P (after x (λ i. Ok i.ended)) (Ok y)) (sym e) h

pub made_not : {Y E : Type 0} (P : Y → Type 0) (Q : E → Type 0) (r : Result Y E) → IsErrAnd r Q → IfOk r P
made_not P Q (Ok y) e = absurd e
made_not P Q (Err h) e = tt

pub none_met : {N : Type 0} (ms es : List N) → ms ≡ [] → es ≡ [] → record { met = ms; ended = es } ≡ nothing_met
none_met ms es a b = ap (λ l. record { met = l; ended = es }) a ∙ ap (λ l. record { met = []; ended = l }) b
