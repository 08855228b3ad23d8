-- Required-first order: depth first, each node after its successors, and each node once. Assumes nothing.
use Rattle.std.specs.Prelude.{ℕ, zero, suc, Bool, false, cond, ◌||◌, List, [], ◌∷◌, ◌++◌, length, Some, None, Ok, Err, Option, Result}

-- what is said of nodes: their successors, what is refused where a node is met first, after so many others, and what
-- where a node is met that is still being followed
pub record Plan (N R : Type 0) : Type 0 where
  pub successors : N → List N
  pub meeting : N → ℕ → Option R
  pub cycle : N → Option R

-- why there is no order: a refusal of the plan's, or a node past the depth
pub data Stop (N R : Type 0) : Type 0 where
  refuses : R → Stop N R
  too_deep : N → Stop N R

-- the nodes met so far, and those followed to their end
pub record Walked (N : Type 0) : Type 0 where
  pub met : List N
  pub ended : List N

abbrev pub nothing_met : {N : Type 0} → Walked N
nothing_met = record { met = []; ended = [] }

abbrev pub among : {N : Type 0} → (N → N → Bool) → N → List N → Bool
among like n [] = false
among like n (m ∷ ms) = like n m || among like n ms

abbrev pub after : {X Y E : Type 0} → Result X E → (X → Result Y E) → Result Y E
after (Ok x) go = go x
after (Err e) go = Err e

-- a value, unless there is a refusal
abbrev pub unless : {X N R : Type 0} → Option R → X → Result X (Stop N R)
unless None x = Ok x
unless (Some r) x = Err (refuses r)

abbrev pub entered : {N : Type 0} → N → Walked N → Walked N
entered n k = record { met = k.met ++ (n ∷ []); ended = k.ended }

abbrev pub done_with : {N : Type 0} → N → Walked N → Walked N
done_with n k = record { met = k.met; ended = k.ended ++ (n ∷ []) }

abbrev pub Follows : Type 0 → Type 0 → Type 0
Follows N R = N → Walked N → Result (Walked N) (Stop N R)

module _ {N R : Type 0} where
  -- one node after another
  abbrev pub along : Follows N R → List N → Walked N → Result (Walked N) (Stop N R)
  along go [] k = Ok k
  along go (n ∷ ns) k = after (go n k) (along go ns)

  -- a node's successors, unless it is refused on its first meeting
  abbrev pub opened : Plan N R → N → ℕ → Result (List N) (Stop N R)
  opened p n met = unless (p.meeting n met) (p.successors n)

  -- a node that is met first: all its successors are followed, then it is done with
  abbrev pub through : Follows N R → N → Walked N → List N → Result (Walked N) (Stop N R)
  through go n k ns = after (along go ns (entered n k)) (λ j. Ok (done_with n j))

  abbrev pub meet : Plan N R → Follows N R → N → Walked N → Result (Walked N) (Stop N R)
  meet p go n k = after (opened p n (length k.met)) (through go n k)

  -- a node that has been followed is done with, and one that is still being followed is met again
  abbrev pub step : (N → N → Bool) → Plan N R → Follows N R → Follows N R
  step like p go n k = cond (among like n k.ended) (Ok k) (cond (among like n k.met) (unless (p.cycle n) k) (meet p go n k))

  -- no path has more nodes than the depth
  abbrev pub walk : (N → N → Bool) → Plan N R → ℕ → Follows N R
  walk like p zero n k = Err (too_deep n)
  walk like p (suc left) n k = step like p (walk like p left) n k

  -- the nodes that a root reaches, required ones first
  abbrev pub order : (N → N → Bool) → Plan N R → ℕ → N → Result (List N) (Stop N R)
  order like p depth root = after (walk like p depth root nothing_met) (λ k. Ok k.ended)
