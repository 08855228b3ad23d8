-- Graphs: which nodes reach which, and lists in which each node stands once, after its successors. Assumes nothing.
use Rattle.std.specs.Prelude.{◌≡◌, Bool, true, false, ◌⊎◌, List, [], ◌∷◌, ◌++◌}
use Rattle.table.specs.Order.{among}

-- nodes that are the same node have the same successors
abbrev pub Steady : {N : Type 0} → (N → N → Bool) → (N → List N) → Type 0
Steady {N = N} like next = (a b : N) → like a b ≡ true → next a ≡ next b

-- a path of one step or more
pub data Reaches {N : Type 0} (like : N → N → Bool) (next : N → List N) (from : N) : N → Type 0 where
  at_once : (to : N) → among like to (next from) ≡ true → Reaches like next from to
  by_way : (via to : N) → Reaches like next from via → among like to (next via) ≡ true → Reaches like next from to

-- no node reaches itself
abbrev pub Acyclic : {N : Type 0} → (N → N → Bool) → (N → List N) → Type 0
Acyclic {N = N} like next = (n : N) → Reaches like next n n → ⊥

abbrev pub Reachable : {N : Type 0} → (N → N → Bool) → (N → List N) → N → N → Type 0
Reachable like next root n = (like n root ≡ true) ⊎ Reaches like next root n

-- each node once
abbrev pub Once : {N : Type 0} → (N → N → Bool) → List N → Type 0
Once like [] = Unit {0}
Once like (n ∷ ns) = (among like n ns ≡ false) × Once like ns

-- each successor of a node stands before it
abbrev pub SuccessorsFirst : {N : Type 0} → (N → N → Bool) → (N → List N) → List N → Type 0
SuccessorsFirst {N = N} like next ns = (front : List N) (n : N) (rest : List N) → ns ≡ front ++ (n ∷ rest) → (m : N) → among like m (next n) ≡ true → among like m front ≡ true

-- the nodes that a root reaches, and no other, in required-first order
pub record RequiredFirst {N : Type 0} (like : N → N → Bool) (next : N → List N) (root : N) (ns : List N) : Type 0 where
  pub once : Once like ns
  pub reached : (n : N) → among like n ns ≡ true → Reachable like next root n
  pub all : (n : N) → Reachable like next root n → among like n ns ≡ true
  pub before : Acyclic like next → SuccessorsFirst like next ns
