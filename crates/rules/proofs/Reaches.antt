-- An answer depends on the texts of the reach alone.
use Rattle.std.proofs.Common.{◌≡◌, ℕ, zero, suc, Bool, true, false, cond, leb, List, [], ◌∷◌, length, refl, ap, ◌∙◌}
use mathlib.Core.Path.{fun_ext}
use Rattle.rules.specs.declared.cause.Cause.{Cause}
use Rattle.rules.specs.Words.{Spelling, among, is_word}
use Rattle.rules.specs.Tops.{Asked}
use Rattle.rules.specs.Refusals.{Answer, answers, refuses, about, bare, ◌>>=◌}
use Rattle.rules.specs.Walk.{Texts, Opened, Walked, Follows, admitted, open_text, follow, entered, done_with, go_through, open_and_go, meet, walk, nothing_met, ended_names}
use Rattle.rules.specs.Build.{expand_walked, walk_and_expand, expanded, delivered, performed}
use Rattle.rules.specs.Reach.{Asks, first, later, Reached, root_itself, required, AnswersByReach}

module _ (t u : Texts) (root : Spelling) (agree : (v : Spelling) → Reached t root v → admitted (t v) ≡ admitted (u v)) (pages : ℕ) where
  abbrev GoesAlike : Follows → Follows → Type 0
  GoesAlike f g = (v : Spelling) → Reached t root v → (k : Walked) → f v k ≡ g v k

  then_alike : {A B : Type 0} (x y : Answer A) (f g : A → Answer B) → x ≡ y → ((a : A) → f a ≡ g a) → ◌>>=◌ x f ≡ ◌>>=◌ y g
  then_alike x y f g p h = ap (λ z. ◌>>=◌ z f) p ∙ ap (λ k. ◌>>=◌ y k) (fun_ext h)

  follow_alike : (f g : Follows) → GoesAlike f g → (asked : List Asked) → ((v : Spelling) → Asks asked v → Reached t root v) → (k : Walked) → follow f asked k ≡ follow g asked k
  follow_alike f g go [] in_reach k = refl
  follow_alike f g go (a ∷ rest) in_reach k =
      then_alike (f a.require.from k) (g a.require.from k) (follow f rest) (follow g rest)
      (go a.require.from (in_reach a.require.from first) k)
      (λ j. follow_alike f g go rest (λ v h. in_reach v (later h)) j)

  opened_alike : (f g : Follows) → GoesAlike f g → (w : Spelling) → Reached t root w → (k : Walked) (x : Answer Opened) → open_text w (admitted (t w)) ≡ x → ◌>>=◌ x (go_through f w k) ≡ ◌>>=◌ x (go_through g w k)
  opened_alike f g go w r k (refuses x) e = refl
  opened_alike f g go w r k (answers o) e = ap (λ z. ◌>>=◌ z (done_with w o)) (follow_alike f g go o.asked (λ v h. required r e h) (entered w k))

  meet_alike : (f g : Follows) → GoesAlike f g → (w : Spelling) → Reached t root w → (k : Walked) → meet f (admitted (t w)) pages w k ≡ meet g (admitted (t w)) pages w k
  meet_alike f g go w r k = by (leb 16 (length k.met)) (leb pages (length k.met))
    where
      by : (a b : Bool) → cond a (refuses (about Cause.TooManyModules w)) (cond b (refuses (about Cause.TooFewPages w)) (open_and_go f (admitted (t w)) w k)) ≡ cond a (refuses (about Cause.TooManyModules w)) (cond b (refuses (about Cause.TooFewPages w)) (open_and_go g (admitted (t w)) w k))
      by true b = refl
      by false true = refl
      by false false = opened_alike f g go w r k (open_text w (admitted (t w))) refl

  -- one more turn of the walk
  turn_alike : (left : ℕ) → GoesAlike (walk t pages left) (walk u pages left) → (v : Spelling) → Reached t root v → (k : Walked) → walk t pages (suc left) v k ≡ walk u pages (suc left) v k
  unfolding walk
  turn_alike left go v r k = by (among v (ended_names k.ended)) (among v k.met)
    where
      by : (a b : Bool) → cond a (answers k) (cond b (refuses (about Cause.RequireCycle v)) (meet (walk t pages left) (admitted (t v)) pages v k)) ≡ cond a (answers k) (cond b (refuses (about Cause.RequireCycle v)) (meet (walk u pages left) (admitted (u v)) pages v k))
      by true b = refl
      by false true = refl
      by false false = meet_alike (walk t pages left) (walk u pages left) go v r k ∙ ap (λ x. meet (walk u pages left) x pages v k) (agree v r)

  walk_alike : (left : ℕ) → GoesAlike (walk t pages left) (walk u pages left)
  unfolding walk
  walk_alike zero v r k = refl
  walk_alike (suc left) v r k = turn_alike left (walk_alike left) v r k

  expanded_alike : expanded t pages root ≡ expanded u pages root
  expanded_alike = by (is_word root)
    where
      by : (b : Bool) → cond b (walk_and_expand t pages root) (refuses (bare Cause.NotAWord)) ≡ cond b (walk_and_expand u pages root) (refuses (bare Cause.NotAWord))
      by false = refl
      by true = ap (λ z. ◌>>=◌ z expand_walked) (walk_alike 17 root root_itself nothing_met)

-- what is built or run depends on the texts of the reach alone
pub answers_by_reach : AnswersByReach
answers_by_reach t u root agree pages room =
    (ap (λ x. ◌>>=◌ x (delivered room root)) (expanded_alike t u root agree pages), ap (λ x. ◌>>=◌ x (performed room root)) (expanded_alike t u root agree pages))
