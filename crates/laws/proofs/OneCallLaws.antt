-- A call's line is the text of one call at most.
use Rattle.std.proofs.Common.{◌≡◌, ℕ, ◌<◌, ◌≤◌, List, [], ◌∷◌, ◌++◌, map, Some, decimal, sym, refl, ap, ◌∙◌, subst, arith}
use Rattle.std.specs.List.{flat_map, AllByRecursion}
use Rattle.std.proofs.lemmas.Fmt.{decimal_nonempty}
use Rattle.std.proofs.ByRecursion.{All-from_get_or}
use Rattle.text.specs.NodeLists.{kept}
use Rattle.text.specs.Pieces.{parted, glued}
use Rattle.text.specs.Spaced.{spaced}
use Rattle.text.proofs.GlueLaws.{Free, parted-glued}
use Rattle.text.proofs.NumberLaws.{all_digits}
use Rattle.reader.specs.declared.calls.Asked.{Asked}
use Rattle.reader.specs.declared.calls.Asked.TheVariants.{Offer, Seal, Plan, Deletions, Release, Abandon}
use Rattle.reader.specs.Letters.{letter}
use Rattle.reader.specs.Calls.{call_act, RestText, call_text}
use Rattle.laws.specs.Backs.{AskedWords, OneCall}
use Rattle.reader.proofs.WantLaws.{letter-back}
use Rattle.laws.proofs.BackLaws.{same_word, same_map}
use Rattle.reader.proofs.PickLaws.{picks-all}

same_some : {A : Type 0} (x y : A) → Some x ≡ Some y → x ≡ y
same_some x y e = cc

-- node lists: the words of the text are the numbers' decimal texts
further-glued : (vs : List ℕ) → flat_map (λ u. 32 ∷ decimal u) vs ≡ flat_map (λ q. 32 ∷ q) (map decimal vs)
further-glued [] = refl
further-glued (v ∷ vs) = ap (λ l. (32 ∷ decimal v) ++ l) (further-glued vs)

spaced-glued : (vs : List ℕ) → spaced vs ≡ glued 32 (map decimal vs)
spaced-glued [] = refl
spaced-glued (v ∷ vs) = ap (λ l. decimal v ++ l) (further-glued vs)

digits-free : (v : ℕ) → v ≤ 65535 → Free 32 (decimal v)
digits-free v h = All-from_get_or (λ b. b ≡ 32 → ⊥) (decimal v) 0 (λ i l e. omega (arith, all_digits (decimal v) v (omega arith) refl i l))

all-free : (vs : List ℕ) → AllByRecursion (λ v. v ≤ 65535) vs → AllByRecursion (Free 32) (map decimal vs)
all-free [] h = tt
all-free (v ∷ vs) h = (digits-free v h.0, all-free vs h.1)

parted-spaced : (vs : List ℕ) → AllByRecursion (λ v. v ≤ 65535) vs → parted 32 (spaced vs) ≡ map decimal vs
parted-spaced [] h = refl
parted-spaced (v ∷ vs) h = ap (parted 32) (spaced-glued (v ∷ vs)) ∙ parted-glued 32 (decimal v) (map decimal vs) (decimal_nonempty v (omega (arith, h.0))) (digits-free v h.0) (all-free vs h.1)

same-words : (vs ws : List ℕ) → AllByRecursion (λ v. v ≤ 65535) vs → AllByRecursion (λ v. v ≤ 65535) ws → map decimal vs ≡ map decimal ws → vs ≡ ws
same-words [] [] p q e = refl
same-words [] (w ∷ ws) p q e = let z : ◌≡◌ {A = ℕ} 0 1 = cc in absurd (omega arith)
same-words (v ∷ vs) [] p q e = let z : ◌≡◌ {A = ℕ} 0 1 = cc in absurd (omega arith)
same-words (v ∷ vs) (w ∷ ws) p q e =
    let here : decimal v ≡ decimal w = cc in
    let more : map decimal vs ≡ map decimal ws = cc in
    let first = same_word v w (omega (arith, p.0)) (omega (arith, q.0)) here in
    let others = same-words vs ws p.1 q.1 more in
    (λ i. first i ∷ others i)

same-spaced : (vs ws : List ℕ) → AllByRecursion (λ v. v ≤ 65535) vs → AllByRecursion (λ v. v ≤ 65535) ws → spaced vs ≡ spaced ws → vs ≡ ws
same-spaced vs ws p q e = same-words vs ws p q (sym (parted-spaced vs p) ∙ ap (parted 32) e ∙ parted-spaced ws q)

same_asked : (x y : Asked) (r : List ℕ) → call_act x ≡ call_act y → AskedWords x → AskedWords y → RestText x r → RestText y r → x ≡ y
same_asked (Offer l) (Offer l') r e w u (vs, p, q, s) (ws, p', q', s') = ap Offer (same_some l l' (q ∙ ap (λ l. kept (Some l)) (same-spaced vs ws p p' (sym s ∙ s')) ∙ sym q'))
same_asked (Offer l) (Seal v') r e w u a b = let z : ◌≡◌ {A = ℕ} 0 1 = cc in absurd (omega arith)
same_asked (Offer l) Plan r e w u a b = let z : ◌≡◌ {A = ℕ} 0 1 = cc in absurd (omega arith)
same_asked (Offer l) Deletions r e w u a b = let z : ◌≡◌ {A = ℕ} 0 1 = cc in absurd (omega arith)
same_asked (Offer l) Release r e w u a b = let z : ◌≡◌ {A = ℕ} 0 1 = cc in absurd (omega arith)
same_asked (Offer l) Abandon r e w u a b = let z : ◌≡◌ {A = ℕ} 0 1 = cc in absurd (omega arith)
same_asked (Seal v) (Offer l') r e w u a b = let z : ◌≡◌ {A = ℕ} 0 1 = cc in absurd (omega arith)
same_asked (Seal v) (Seal v') r e w u a b = ap Seal (same_word v v' (omega (arith, w)) (omega (arith, u)) (sym a ∙ b))
same_asked (Seal v) Plan r e w u a b = let z : ◌≡◌ {A = ℕ} 0 1 = cc in absurd (omega arith)
same_asked (Seal v) Deletions r e w u a b = let z : ◌≡◌ {A = ℕ} 0 1 = cc in absurd (omega arith)
same_asked (Seal v) Release r e w u a b = let z : ◌≡◌ {A = ℕ} 0 1 = cc in absurd (omega arith)
same_asked (Seal v) Abandon r e w u a b = let z : ◌≡◌ {A = ℕ} 0 1 = cc in absurd (omega arith)
same_asked Plan (Offer l') r e w u a b = let z : ◌≡◌ {A = ℕ} 0 1 = cc in absurd (omega arith)
same_asked Plan (Seal v') r e w u a b = let z : ◌≡◌ {A = ℕ} 0 1 = cc in absurd (omega arith)
same_asked Plan Plan r e w u a b = refl
same_asked Plan Deletions r e w u a b = let z : ◌≡◌ {A = ℕ} 0 1 = cc in absurd (omega arith)
same_asked Plan Release r e w u a b = let z : ◌≡◌ {A = ℕ} 0 1 = cc in absurd (omega arith)
same_asked Plan Abandon r e w u a b = let z : ◌≡◌ {A = ℕ} 0 1 = cc in absurd (omega arith)
same_asked Deletions (Offer l') r e w u a b = let z : ◌≡◌ {A = ℕ} 0 1 = cc in absurd (omega arith)
same_asked Deletions (Seal v') r e w u a b = let z : ◌≡◌ {A = ℕ} 0 1 = cc in absurd (omega arith)
same_asked Deletions Plan r e w u a b = let z : ◌≡◌ {A = ℕ} 0 1 = cc in absurd (omega arith)
same_asked Deletions Deletions r e w u a b = refl
same_asked Deletions Release r e w u a b = let z : ◌≡◌ {A = ℕ} 0 1 = cc in absurd (omega arith)
same_asked Deletions Abandon r e w u a b = let z : ◌≡◌ {A = ℕ} 0 1 = cc in absurd (omega arith)
same_asked Release (Offer l') r e w u a b = let z : ◌≡◌ {A = ℕ} 0 1 = cc in absurd (omega arith)
same_asked Release (Seal v') r e w u a b = let z : ◌≡◌ {A = ℕ} 0 1 = cc in absurd (omega arith)
same_asked Release Plan r e w u a b = let z : ◌≡◌ {A = ℕ} 0 1 = cc in absurd (omega arith)
same_asked Release Deletions r e w u a b = let z : ◌≡◌ {A = ℕ} 0 1 = cc in absurd (omega arith)
same_asked Release Release r e w u a b = refl
same_asked Release Abandon r e w u a b = let z : ◌≡◌ {A = ℕ} 0 1 = cc in absurd (omega arith)
same_asked Abandon (Offer l') r e w u a b = let z : ◌≡◌ {A = ℕ} 0 1 = cc in absurd (omega arith)
same_asked Abandon (Seal v') r e w u a b = let z : ◌≡◌ {A = ℕ} 0 1 = cc in absurd (omega arith)
same_asked Abandon Plan r e w u a b = let z : ◌≡◌ {A = ℕ} 0 1 = cc in absurd (omega arith)
same_asked Abandon Deletions r e w u a b = let z : ◌≡◌ {A = ℕ} 0 1 = cc in absurd (omega arith)
same_asked Abandon Release r e w u a b = let z : ◌≡◌ {A = ℕ} 0 1 = cc in absurd (omega arith)
same_asked Abandon Abandon r e w u a b = refl

pub one-call : OneCall
one-call is line a b (names, o) w u ws us (r, p, s) (r', p', s') =
    let at : (j : ℕ) → j < 3 → call_text a r j ≡ call_text b r' j = λ j h. same_map (call_text a r) (call_text b r') is (sym s ∙ s') j (picks-all 3 is o.all o.once o.names j h) in
    let acts = same_some (call_act a.asked) (call_act b.asked) (sym (letter-back (call_act a.asked)) ∙ ap letter (at 0 (omega arith)) ∙ letter-back (call_act b.asked)) in
    let first = same_word a.first b.first w u (at 1 (omega arith)) in
    let rest : r ≡ r' = at 2 (omega arith) in
    let asked = same_asked a.asked b.asked r' acts ws us (subst (RestText a.asked) rest p) p' in
    (λ i. record { asked = asked i; first = first i })
