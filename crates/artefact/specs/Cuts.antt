-- Fields between spaces.
use Rattle.std.specs.Prelude.{◌≡◌, ℕ, ◌<◌, List, ◌∷◌, ◌++◌, Some, None, ◌≢◌}
use Rattle.std.proofs.Common.{ap, ◌∙◌, lit<}
use Rattle.std.specs.Borrow.{Bor}
use Rattle.std.proofs.lemmas.Str.Pattern.{IsSplitOnceResult, split_after, split_parts}
use Rattle.artefact.specs.Lines.{Lacks}
use Rattle.artefact.specs.Fields.{five}

abbrev Text : Type 0
Text = Bor (List ℕ)

module _ (b : ℕ) (small : b < 128) (s : List ℕ) where
  pub cut_is : (f r : Text) → IsSplitOnceResult b s (Some (f, r)) → s ≡ f.now ++ (b ∷ r.now)
  cut_is f r h = (split_parts b s (Some (f, r)) h small).0

  pub cut_found : (f r : Text) (x y : List ℕ) → IsSplitOnceResult b s (Some (f, r)) → Lacks b x → s ≡ x ++ (b ∷ y) → (f.now ≡ x) × (r.now ≡ y)
  cut_found f r x y h l e = split_after b s x y (Some (f, r)) h small e l

  pub cut_none : (x y : List ℕ) → IsSplitOnceResult b s None → Lacks b x → s ≢ x ++ (b ∷ y)
  cut_none x y h l e = split_after b s x y None h small e l

-- four cuts at spaces, of which each goes on with what the one before has left
module _ (s a b c d e : List ℕ) (la : Lacks 32 a) (lb : Lacks 32 b) (lc : Lacks 32 c) (ld : Lacks 32 d) (is : s ≡ five a b c d e) where
  pub none_1 : IsSplitOnceResult 32 s None → ⊥
  none_1 h = cut_none 32 (lit< tt) s a _ h la is

  module _ (f1 r1 : Text) (h1 : IsSplitOnceResult 32 s (Some (f1, r1))) where
    one : (f1.now ≡ a) × (r1.now ≡ b ++ (32 ∷ (c ++ (32 ∷ (d ++ (32 ∷ e))))))
    one = cut_found 32 (lit< tt) s f1 r1 a _ h1 la is

    pub none_2 : IsSplitOnceResult 32 r1.now None → ⊥
    none_2 h = cut_none 32 (lit< tt) r1.now b _ h lb one.1

    module _ (f2 r2 : Text) (h2 : IsSplitOnceResult 32 r1.now (Some (f2, r2))) where
      two : (f2.now ≡ b) × (r2.now ≡ c ++ (32 ∷ (d ++ (32 ∷ e))))
      two = cut_found 32 (lit< tt) r1.now f2 r2 b _ h2 lb one.1

      pub none_3 : IsSplitOnceResult 32 r2.now None → ⊥
      none_3 h = cut_none 32 (lit< tt) r2.now c _ h lc two.1

      module _ (f3 r3 : Text) (h3 : IsSplitOnceResult 32 r2.now (Some (f3, r3))) where
        three : (f3.now ≡ c) × (r3.now ≡ d ++ (32 ∷ e))
        three = cut_found 32 (lit< tt) r2.now f3 r3 c _ h3 lc two.1

        pub none_4 : IsSplitOnceResult 32 r3.now None → ⊥
        none_4 h = cut_none 32 (lit< tt) r3.now d _ h ld three.1

        pub all_five : (f4 r4 : Text) → IsSplitOnceResult 32 r3.now (Some (f4, r4)) → (f1.now ≡ a) × (f2.now ≡ b) × (f3.now ≡ c) × (f4.now ≡ d) × (r4.now ≡ e)
        all_five f4 r4 h4 =
            let four = cut_found 32 (lit< tt) r3.now f4 r4 d e h4 ld three.1 in
            (one.0, two.0, three.0, four.0, four.1)

-- the cuts put together again
pub joined_five : (s : List ℕ) (f1 r1 f2 r2 f3 r3 f4 r4 : Text) → IsSplitOnceResult 32 s (Some (f1, r1)) → IsSplitOnceResult 32 r1.now (Some (f2, r2)) → IsSplitOnceResult 32 r2.now (Some (f3, r3)) → IsSplitOnceResult 32 r3.now (Some (f4, r4)) → s ≡ five f1.now f2.now f3.now f4.now r4.now
joined_five s f1 r1 f2 r2 f3 r3 f4 r4 h1 h2 h3 h4 =
    cut_is 32 (lit< tt) s f1 r1 h1 ∙ ap (λ k. f1.now ++ (32 ∷ k)) (cut_is 32 (lit< tt) r1.now f2 r2 h2 ∙ ap (λ k. f2.now ++ (32 ∷ k)) (cut_is 32 (lit< tt) r2.now f3 r3 h3 ∙ ap (λ k. f3.now ++ (32 ∷ k)) (cut_is 32 (lit< tt) r3.now f4 r4 h4)))
