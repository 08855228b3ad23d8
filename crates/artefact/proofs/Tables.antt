-- Entries one after another: a text is one list of lines, and what stands after it.
use Rattle.std.proofs.Common.{◌≡◌, ℕ, suc, ◌+◌, ◌<◌, ◌≤◌, List, [], ◌∷◌, ◌++◌, length, get_or, take, Some, None, sym, refl, ap, ◌∙◌, subst, arith, lit<, Bor}
use Rattle.std.specs.List.{flat_map, AllByRecursion}
use Rattle.std.proofs.lemmas.List.{append-nil, append_assoc, take_more, take_all, flat_map_more, length-append}
use Rattle.std.proofs.lemmas.Str.Pattern.{IsSplitOnceResult}
use Rattle.artefact.specs.Lines.{Lacks, Ended}
use Rattle.artefact.specs.Tables.{Stops}
use Rattle.artefact.specs.Cuts.{cut_is, cut_found, cut_none}
use Rattle.artefact.specs.LinesLemmas.{line_once}

module _ {E : Type 0} (line : E → List ℕ) where
  -- one line more is written
  pub put_more : (xs : List E) (i : ℕ) (x : E) (o p q : List ℕ) → i < length xs → x ≡ get_or xs i x → p ≡ o ++ flat_map line (take i xs) → q ≡ p ++ line x → q ≡ o ++ flat_map line (take (i + 1) xs)
  put_more xs i x o p q l e f g =
      g ∙ ap (λ k. k ++ line x) f ∙ flat_map_more line o (take i xs) x ∙ ap (λ ys. o ++ flat_map line ys) (ap (λ y. take i xs ++ y ∷ []) e ∙ sym (take_more xs i x l))

  pub put_none : (xs : List E) (o : List ℕ) → o ≡ o ++ flat_map line (take 0 xs)
  put_none xs o = sym (append-nil o)

  pub put_done : (xs : List E) (i : ℕ) (o p : List ℕ) → length xs ≤ i → p ≡ o ++ flat_map line (take i xs) → p ≡ o ++ flat_map line xs
  put_done xs i o p l e = e ∙ ap (λ ys. o ++ flat_map line ys) (take_all i xs l)

-- the line in front, where the text is cut at its first line feed
module _ (s : List ℕ) where
  pub title_cut : (title : List ℕ) (f r : Bor (List ℕ)) → IsSplitOnceResult 10 s (Some (f, r)) → f.now ≡ title → s ≡ title ++ (10 ∷ r.now)
  title_cut title f r h e = cut_is 10 (lit< tt) s f r h ∙ ap (λ k. k ++ (10 ∷ r.now)) e

  pub title_other : (title : List ℕ) (f r : Bor (List ℕ)) → IsSplitOnceResult 10 s (Some (f, r)) → (f.now ≡ title → ⊥) → Lacks 10 title → (rest : List ℕ) → s ≡ title ++ (10 ∷ rest) → ⊥
  title_other title f r h n l rest e = n (cut_found 10 (lit< tt) s f r title rest h l e).0

  pub title_uncut : (title : List ℕ) → IsSplitOnceResult 10 s None → Lacks 10 title → (rest : List ℕ) → s ≡ title ++ (10 ∷ rest) → ⊥
  title_uncut title h l rest e = cut_none 10 (lit< tt) s title rest h l e

  module _ (lawful : List ℕ → Type 0) (ended : (l : List ℕ) → lawful l → Ended l) where
    split_line : (l rest : List ℕ) (w : lawful l) → s ≡ l ++ rest → s ≡ (ended l w).0 ++ (10 ∷ rest)
    split_line l rest w e = e ∙ ap (λ k. k ++ rest) (ended l w).1 ∙ append_assoc (ended l w).0 (10 ∷ []) rest

    pub uncut_stops : IsSplitOnceResult 10 s None → Stops lawful s
    uncut_stops h l rest w e = cut_none 10 (lit< tt) s (ended l w).0 rest h (ended l w).2 (split_line l rest w e)

    pub unread_stops : (f r : Bor (List ℕ)) → IsSplitOnceResult 10 s (Some (f, r)) → (lawful (f.now ++ (10 ∷ [])) → ⊥) → Stops lawful s
    unread_stops f r h n l rest w e =
        let same = cut_found 10 (lit< tt) s f r (ended l w).0 rest h (ended l w).2 (split_line l rest w e) in
        n (subst lawful ((ended l w).1 ∙ ap (λ k. k ++ (10 ∷ [])) (sym same.0)) w)

  pub line_cut : (l : List ℕ) (f r : Bor (List ℕ)) → IsSplitOnceResult 10 s (Some (f, r)) → l ≡ f.now ++ (10 ∷ []) → (s ≡ l ++ r.now) × (length r.now < length s)
  line_cut l f r h e =
      let is = cut_is 10 (lit< tt) s f r h in
      let long : length s ≡ length f.now + suc (length r.now) = ap length is ∙ length-append f.now (10 ∷ r.now) in
      (is ∙ sym (append_assoc f.now (10 ∷ []) r.now) ∙ ap (λ k. k ++ r.now) (sym e), omega arith)

-- one entry more is read
pub tabled_more : {E : Type 0} (line : E → List ℕ) (fits : E → Type 0) (s r t : List ℕ) (xs : List E) (x : E) → s ≡ flat_map line xs ++ r → r ≡ line x ++ t → s ≡ flat_map line (xs ++ x ∷ []) ++ t
tabled_more line fits s r t xs x e f =
    e ∙ ap (λ k. flat_map line xs ++ k) f ∙ sym (append_assoc (flat_map line xs) (line x) t) ∙ ap (λ k. k ++ t) (flat_map_more line [] xs x)

-- two readings of one text
module _ {Q : Type 0} (Within : Q → Type 0) (line : Q → List ℕ) (ended : (q : Q) → Within q → Ended (line q)) (told : (q r : Q) → Within q → Within r → line q ≡ line r → q ≡ r) where
  abbrev Lawful : List ℕ → Type 0
  Lawful l = (q : Q) × Within q × (l ≡ line q)

  pub read_once : (qs rs : List Q) (s t : List ℕ) → AllByRecursion Within qs → AllByRecursion Within rs → Stops Lawful s → Stops Lawful t → flat_map line qs ++ s ≡ flat_map line rs ++ t → (qs ≡ rs) × (s ≡ t)
  read_once [] [] s t v w n m e = (refl, e)
  read_once [] (r ∷ rs) s t v w n m e = absurd (n (line r) (flat_map line rs ++ t) (r, w.0, refl) (e ∙ append_assoc (line r) (flat_map line rs) t))
  read_once (q ∷ qs) [] s t v w n m e = absurd (m (line q) (flat_map line qs ++ s) (q, v.0, refl) (sym e ∙ append_assoc (line q) (flat_map line qs) s))
  read_once (q ∷ qs) (r ∷ rs) s t v w n m e =
      let lines = line_once (line q) (line r) (flat_map line qs ++ s) (flat_map line rs ++ t) (ended q v.0) (ended r w.0) (sym (append_assoc (line q) (flat_map line qs) s) ∙ e ∙ append_assoc (line r) (flat_map line rs) t) in
      let first = told q r v.0 w.0 lines.0 in
      let rest = read_once qs rs s t v.1 w.1 n m lines.1 in
      (λ i. first i ∷ rest.0 i, rest.1)
