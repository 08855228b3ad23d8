-- Entries of five columns: what holds of rows and of headings alike.
use Rattle.std.specs.Prelude.{◌≡◌, ℕ, true, List, [], ◌∷◌, ◌++◌, Some, None, Option, MatchOption}
use Rattle.std.proofs.Common.{sym, ap, subst, ◌∙◌}
use Rattle.std.proofs.lemmas.List.{append_cancel_right}
use Rattle.artefact.specs.Lines.{Lacks, Ended}
use Rattle.artefact.specs.Fields.{five, Got}
use Rattle.artefact.specs.Picks.{some_same, none_some, got_some, got_none}
use Rattle.artefact.specs.LinesLemmas.{Five, fields, body, line_of, line_body, AllPlain, no_space, low, five_low, five_ended, five_once}

module _ {Q : Type 0} where
  abbrev read : (List ℕ → List ℕ → List ℕ → List ℕ → List ℕ → Option Q) → Five → Option Q
  read from f = from f.a f.b f.c f.d f.e

  pub record Columns (Within : Q → Type 0) (line : Q → List ℕ) (from : List ℕ → List ℕ → List ℕ → List ℕ → List ℕ → Option Q) : Type 0 where
    pub five_of : Q → Five
    pub is : (q : Q) → line q ≡ line_of (five_of q)
    pub plain : (q : Q) → Within q → AllPlain (five_of q)
    pub back : (q : Q) → Within q → read from (five_of q) ≡ Some q
    pub sound : (f : Five) (q : Q) → read from f ≡ Some q → (five_of q ≡ f) × Within q

  module _ {Within : Q → Type 0} {line : Q → List ℕ} {from : List ℕ → List ℕ → List ℕ → List ℕ → List ℕ → Option Q} (columns : Columns Within line from) where
    pub entry_ended : (q : Q) → Within q → Ended (line q)
    entry_ended q w = subst Ended (sym (columns.is q)) (five_ended (columns.five_of q) (columns.plain q w))

    pub entry_low : (q : Q) → Within q → low (line q) ≡ true
    entry_low q w = ap low (columns.is q) ∙ five_low (columns.five_of q) (columns.plain q w)

    -- a line tells its entry
    pub entry_told : (q r : Q) → Within q → Within r → line q ≡ line r → q ≡ r
    entry_told q r v w e =
        let same = five_once (columns.five_of q) (columns.five_of r) (columns.plain q v) (columns.plain r w) (sym (columns.is q) ∙ e ∙ columns.is r) in
        some_same q r (sym (columns.back q v) ∙ ap (read from) same ∙ columns.back r w)

    -- the body of a line within the limits
    entry_body : (text : List ℕ) (q : Q) → text ++ (10 ∷ []) ≡ line q → text ≡ body (columns.five_of q)
    entry_body text q e = append_cancel_right text (body (columns.five_of q)) (10 ∷ []) (e ∙ columns.is q ∙ line_body (columns.five_of q))

    -- how the code's fields were found
    abbrev pub Found : List ℕ → (Five → Type 0) → Type 0
    Found text P = (a b c d e : List ℕ) → Lacks 32 a → Lacks 32 b → Lacks 32 c → Lacks 32 d → text ≡ five a b c d e → P (fields a b c d e)

    found : (text : List ℕ) (P : Five → Type 0) (q : Q) → Within q → text ++ (10 ∷ []) ≡ line q → Found text P → P (columns.five_of q)
    found text P q w e f =
        let p = columns.plain q w in
        f (columns.five_of q).a (columns.five_of q).b (columns.five_of q).c (columns.five_of q).d (columns.five_of q).e (no_space (columns.five_of q).a p.pa) (no_space (columns.five_of q).b p.pb) (no_space (columns.five_of q).c p.pc) (no_space (columns.five_of q).d p.pd) (entry_body text q e)

    -- no fields, no entry
    pub no_fields : (text : List ℕ) → Found text (λ _. ⊥) → (q : Q) × Within q × (text ++ (10 ∷ []) ≡ line q) → ⊥
    no_fields text f l = found text (λ _. ⊥) l.0 l.1 l.2 f

    -- fields, and what they are read as
    pub entry_read : {X : Type 0} (same : X → Q → Type 0) (shown : X → List ℕ) (Fits : X → Type 0) (tie : (x : X) (q : Q) → same x q → Within q → (shown x ≡ line q) × Fits x) (text : List ℕ) (f : Five) (r : Option X) → text ≡ body f → Found text (λ g. g ≡ f) → Got same (read from f) r → MatchOption r ((q : Q) × Within q × (text ++ (10 ∷ []) ≡ line q) → ⊥) (λ x. (shown x ≡ text ++ (10 ∷ [])) × Fits x)
    entry_read same shown Fits tie text f None e g h =
        λ l. none_some l.0 (sym (got_none same (read from f) h) ∙ ap (read from) (sym (found text (λ k. k ≡ f) l.0 l.1 l.2 g)) ∙ columns.back l.0 l.1)
    entry_read same shown Fits tie text f (Some x) e g h =
        let o = got_some same (read from f) x h in
        let s = columns.sound f o.0 o.1 in
        let t = tie x o.0 o.2 s.1 in
        (t.0 ∙ columns.is o.0 ∙ line_body (columns.five_of o.0) ∙ ap (λ k. body k ++ (10 ∷ [])) s.0 ∙ ap (λ k. k ++ (10 ∷ [])) (sym e), t.1)
