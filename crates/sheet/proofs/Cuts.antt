-- A long list of nodes, cut to nine.
use Rattle.std.proofs.Common.{◌≡◌, ℕ, ◌<◌, ◌≤◌, cond, ltb, List, [], ◌∷◌, ◌++◌, length, take, Some, Ok, sym, refl, ap, ◌∙◌, subst, inl, inr, arith, length-append}
use Rattle.std.proofs.lemmas.List.{append-nil, take_all, length-take-le}
use Rattle.std.proofs.lemmas.Bool.{cases_lt, lt-ltb, le-ltb}
use Rattle.site.specs.Site.{Site}
use Rattle.text.specs.NodeLists.{kept}
use Rattle.text.specs.declared.nodes.NodeList.{NodeList}
use Rattle.text.specs.Texts.{whole}
use Rattle.reader.specs.declared.calls.Asked.{Asked}
use Rattle.reader.specs.declared.calls.Asked.TheVariants.{Offer, Seal, Plan, Deletions, Release, Abandon}
use Rattle.store.specs.Stripes.{Code, Ledger, Call, offer}
use Rattle.store.specs.Ledger.{ledger}
use Rattle.sheet.specs.Replies.{reply_text}
use Rattle.sheet.specs.Runs.{Lined, line_for}
use Rattle.sheet.specs.Said.{Stands, first_of, sent, sent_nodes}
use Rattle.sheet.proofs.Lines.{ledger-more, long-answer, long-step}

-- what is sent of a list: all of it up to eight nodes, and nine of a longer one
record Cut (vs ws : List ℕ) : Type 0 where
  short : length vs ≤ 8 → ws ≡ vs
  long : 8 < length vs → 8 < length ws

cut-kept : (list : NodeList) (vs ws : List ℕ) → Some list ≡ kept (Some vs) → ws ≡ sent_nodes (Offer list) → Cut vs ws
cut-kept list vs ws e t =
    let nodes : list.nodes ≡ take 8 vs = cc in
    let len : list.len ≡ length vs = cc in
    let w : ws ≡ take 8 vs ++ cond (ltb 8 (length vs)) (0 ∷ []) [] = t ∙ (λ i. nodes i ++ cond (ltb 8 (len i)) (0 ∷ []) []) in
    record {
      short = λ h. w ∙ ap (λ b. take 8 vs ++ cond b (0 ∷ []) []) (le-ltb 8 (length vs) h) ∙ append-nil (take 8 vs) ∙ take_all 8 vs h;
      long = λ h.
          let l : ws ≡ take 8 vs ++ (0 ∷ []) = w ∙ ap (λ b. take 8 vs ++ cond b (0 ∷ []) []) (lt-ltb 8 (length vs) h) in
          omega (arith, ap length l, length-append (take 8 vs) (0 ∷ []), length-take-le 8 vs (omega arith));
    }

-- a call with the cut list is answered as the call with the whole list
lined-cut : (s : Site) (h : List Call) (b : ℕ) (vs ws : List ℕ) (o : Code) (after : Ledger) (count : ℕ) (was is : List ℕ) → (ledger s h).code ≡ Some o → Cut vs ws
    → Lined s h (offer b ws) after count was is → Lined s h (offer b vs) after count was is
lined-cut s h b vs ws o after count was is has cut lined =
    let l = ledger s h in
    elim (cases_lt 8 (length vs)) [
      | inr low ↦ subst (λ (us : List ℕ). Lined s h (offer b us) after count was is) (cut.short low) lined
      | inl long ↦
          let line : line_for s l (Ok (offer b ws)) ≡ line_for s l (Ok (offer b vs)) =
          ap (λ r. reply_text b r []) (long-answer s l o b ws has (cut.long long) ∙ sym (long-answer s l o b vs has long)) in
          let next : ledger s (h ++ (offer b ws ∷ [])) ≡ ledger s (h ++ (offer b vs ∷ [])) =
          ledger-more s h (offer b ws) ∙ long-step s l o b ws has (cut.long long) ∙ sym (long-step s l o b vs has long) ∙ sym (ledger-more s h (offer b vs)) in
          record {
            ledgered = lined.ledgered ∙ next;
            text = lined.text ∙ ap (whole was) line;
            count_is = lined.count_is ∙ ap (λ t. length (take (length was) t)) line;
            short = subst (λ (t : List ℕ). length t ≤ 2048) line lined.short;
          }
    ]

-- the first number of what is sent is the line's
pub first-sent : (asked : Asked) (n : ℕ) (ws : List ℕ) → n ≡ first_of (sent asked n ws)
first-sent (Offer list) n ws = refl
first-sent (Seal v) n ws = refl
first-sent Plan n ws = refl
first-sent Deletions n ws = refl
first-sent Release n ws = refl
first-sent Abandon n ws = refl

module _ (s : Site) (h : List Call) (n : ℕ) (ws : List ℕ) (o : Code) (after : Ledger) (count : ℕ) (was is : List ℕ) (call : Call) (has : (ledger s h).code ≡ Some o) where
  same : (sent : Call) → call ≡ sent → Lined s h sent after count was is → Lined s h call after count was is
  same sent e = subst (λ (x : Call). Lined s h x after count was is) (sym e)

  -- what is sent is answered as the call that the line asks for
  pub lined-sent : (asked : Asked) → Stands asked n call → ws ≡ sent_nodes asked → Lined s h (sent asked n ws) after count was is → Lined s h call after count was is
  lined-sent (Offer list) p e lined = same (offer n p.0) p.2 (lined-cut s h n p.0 ws o after count was is has (cut-kept list p.0 ws p.1 e) lined)
  lined-sent (Seal v) p e lined = same (sent (Seal v) n ws) p lined
  lined-sent Plan p e lined = same (sent Plan n ws) p lined
  lined-sent Deletions p e lined = same (sent Deletions n ws) p lined
  lined-sent Release p e lined = same (sent Release n ws) p lined
  lined-sent Abandon p e lined = same (sent Abandon n ws) p lined
