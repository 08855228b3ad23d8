-- Lines as they are written, field by field.
use Rattle.std.proofs.Common.{◌≡◌, ℕ, ◌≤◌, List, [], ◌∷◌, ◌++◌, length, map, take, Bor, refl, sym, ap, ◌∙◌}
use Rattle.std.proofs.lemmas.List.{append_assoc, take_all}
use Rattle.std.specs.List.{flat_map}
use Rattle.rules.specs.Artefact.{line}

pub field_put : (o p q f : List ℕ) (e : ℕ) → p ≡ o ++ f → q ≡ p ++ e ∷ [] → q ≡ o ++ (f ++ (e ∷ []))
field_put o p q f e g h = h ∙ ap (λ k. k ++ e ∷ []) g ∙ append_assoc o f (e ∷ [])

-- six parts, one after another
pub six_put : (o p q r s t u a b c d e f : List ℕ) → p ≡ o ++ a → q ≡ p ++ b → r ≡ q ++ c → s ≡ r ++ d → t ≡ s ++ e → u ≡ t ++ f → u ≡ o ++ (a ++ (b ++ (c ++ (d ++ (e ++ f)))))
six_put o p q r s t u a b c d e f h i j k l m =
    m ∙ ap (λ x. x ++ f) (l ∙ ap (λ x. x ++ e) (k ∙ ap (λ x. x ++ d) (j ∙ ap (λ x. x ++ c) (i ∙ ap (λ x. x ++ b) h)))) ∙ simp append_assoc

-- a line is its fields but the last, each with a space, and then the last
pub line_of : (front : List (Bor (List ℕ))) (last : Bor (List ℕ)) → flat_map (λ f. f.now ++ (32 ∷ [])) front ++ (last.now ++ (10 ∷ [])) ≡ line (map (λ f. f.now) (front ++ (last ∷ [])))
line_of [] last = refl
line_of (f ∷ []) last = append_assoc (f.now ++ (32 ∷ [])) [] _ ∙ append_assoc f.now (32 ∷ []) _
line_of (f ∷ g ∷ fs) last = append_assoc (f.now ++ (32 ∷ [])) _ _ ∙ append_assoc f.now (32 ∷ []) _ ∙ ap (λ k. f.now ++ (32 ∷ k)) (line_of (g ∷ fs) last)

pub line_put : (o p q : List ℕ) (fields front : List (Bor (List ℕ))) (last : Bor (List ℕ)) (n : ℕ) → fields ≡ front ++ (last ∷ []) → length front ≤ n → p ≡ o ++ flat_map (λ f. f.now ++ (32 ∷ [])) (take n front) → q ≡ p ++ (last.now ++ (10 ∷ [])) → q ≡ o ++ line (map (λ f. f.now) fields)
line_put o p q fields front last n e l g h =
    let whole : p ≡ o ++ flat_map (λ f. f.now ++ (32 ∷ [])) front = g ∙ ap (λ k. o ++ flat_map (λ f. f.now ++ (32 ∷ [])) k) (take_all n front l) in
    h ∙ ap (λ k. k ++ (last.now ++ (10 ∷ []))) whole ∙ append_assoc o _ _ ∙ ap (λ k. o ++ k) (line_of front last ∙ ap (λ k. line (map (λ f. f.now) k)) (sym e))
