-- Sets of blocks: one more member and one fewer, and the sets of the racks as a block leaves and joins them.
use Rattle.std.proofs.Common.{◌≡◌, ℕ, ◌/◌, ◌%◌, ◌^◌, ◌<◌, Bool, true, false, cond, not, ◌&&◌, ◌||◌, eqb, ltb, List, length, get_or, set, Some, None, Option, sym, refl, ap, ap₂, ◌∙◌, inl, inr, arith}
use lib.Bits.{bit_or, bit_xor}
use Rattle.std.proofs.lemmas.List.{get_or-set_same, get_or-set_other, get_or_default}
use Rattle.std.proofs.lemmas.Bool.{cases_eq, cases_Bool, eq-eqb, ne_eqb, lt-ltb, and_right, or_right, false≢true, not_from_true, not_from_false}
use Rattle.site.specs.Words.{member}
use Rattle.choices.proofs.Words.{member-or, turned-own, turned-other}
use Rattle.placement.specs.declared.seat.Seat.{Seat}
use Rattle.placement.specs.Seats.{seat_of, node_of, lies_in, noted, has_noted}

and-yes : (b d : Bool) → d ≡ true → (b && d) ≡ b
and-yes true d e = e
and-yes false d e = refl

or-no : (b d : Bool) → d ≡ false → (b || d) ≡ b
or-no true d e = refl
or-no false d e = e

pub with-told : (w x k : ℕ) → x < 32 → member (cond (ltb x 32) (bit_or w (2 ^ x)) w) k ≡ (member w k || eqb k x)
with-told w x k l = ap (λ b. member (cond b (bit_or w (2 ^ x)) w) k) (lt-ltb x 32 l) ∙ member-or w x k

pub with-below : (w x m : ℕ) → x < 32 → m ≡ cond (ltb x 32) (bit_or w (2 ^ x)) w → m ≡ bit_or w (2 ^ x)
with-below w x m l e = e ∙ ap (λ b. cond b (bit_or w (2 ^ x)) w) (lt-ltb x 32 l)

pub without-told : (w x k : ℕ) → member (cond (member w x) (bit_xor w (2 ^ x)) w) k ≡ (member w k && not (eqb k x))
without-told w x k =
    elim (cases_Bool (member w x)) [
      | inl t ↦ ap (λ b. member (cond b (bit_xor w (2 ^ x)) w) k) t
          ∙ elim (cases_eq k x) [
            | inl e ↦ ap (member (bit_xor w (2 ^ x))) e ∙ turned-own w x t ∙ sym (and_right (member w k) _ (not_from_true _ (eq-eqb k x e)))
            | inr e ↦ turned-other w x k e ∙ sym (and-yes (member w k) _ (not_from_false _ (ne_eqb k x e)))
          ]
      | inr f ↦ ap (λ b. member (cond b (bit_xor w (2 ^ x)) w) k) f
          ∙ elim (cases_eq k x) [
            | inl e ↦ ap (member w) e ∙ f ∙ sym (and_right (member w k) _ (not_from_true _ (eq-eqb k x e)))
            | inr e ↦ sym (and-yes (member w k) _ (not_from_false _ (ne_eqb k x e)))
          ]
    ]

-- u is the set of the rack of the seat v, which has the place r₀, and another comes there
module _ (racks : List ℕ) (r₀ x u : ℕ) (v : Seat) (full : length racks ≡ 32) (inside : r₀ < 32) (its : r₀ ≡ v.rack.0 % 32)
    (is : u ≡ get_or racks r₀ u) where
  here : (u' r k : ℕ) → r ≡ r₀ → member (get_or (set racks r₀ u') r 0) k ≡ member u' k
  here u' r k e =
      ap (λ z. member (get_or (set racks r₀ u') z 0) k) e
      ∙ ap (λ z. member z k) (get_or-set_same racks r₀ u' 0 (let l : r₀ < length racks = omega (arith, full) in l))

  was : (r k : ℕ) → r ≡ r₀ → member u k ≡ member (get_or racks r 0) k
  was r k e =
      ap (λ z. member z k) (is ∙ get_or_default racks r₀ u 0 (let l : r₀ < length racks = omega (arith, full) in l) ∙ ap (λ z. get_or racks z 0) (sym e))

  its-rack : (r : ℕ) → r ≡ r₀ → lies_in r (Some v) ≡ true
  its-rack r e = eq-eqb (v.rack.0 % 32) r (sym its ∙ sym e)

  other-rack : (r : ℕ) → (r ≡ r₀ → ⊥) → lies_in r (Some v) ≡ false
  other-rack r e = ne_eqb (v.rack.0 % 32) r (λ z. e (sym z ∙ sym its))

  pub joined : (u' : ℕ) → ((k : ℕ) → member u' k ≡ (member u k || eqb k x)) → (r k : ℕ) → r < 32
      → member (get_or (set racks r₀ u') r 0) k ≡ (member (get_or racks r 0) k || (eqb k x && lies_in r (Some v)))
  joined u' more r k h =
      elim (cases_eq r r₀) [
        | inl e ↦ here u' r k e ∙ more k ∙ ap₂ (λ a b. a || b) (was r k e) (sym (and-yes (eqb k x) _ (its-rack r e)))
        | inr e ↦ ap (λ z. member z k) (get_or-set_other racks r₀ r u' 0 e) ∙ sym (or-no (member (get_or racks r 0) k) _ (and_right (eqb k x) _ (other-rack r e)))
      ]

  pub left : (u' : ℕ) → ((k : ℕ) → member u' k ≡ (member u k && not (eqb k x))) → (r k : ℕ) → r < 32
      → member (get_or (set racks r₀ u') r 0) k ≡ (member (get_or racks r 0) k && not (eqb k x && lies_in r (Some v)))
  left u' fewer r k h =
      elim (cases_eq r r₀) [
        | inl e ↦ here u' r k e ∙ fewer k ∙ ap₂ (λ a b. a && not b) (was r k e) (sym (and-yes (eqb k x) _ (its-rack r e)))
        | inr e ↦ ap (λ z. member z k) (get_or-set_other racks r₀ r u' 0 e)
            ∙ sym (and-yes (member (get_or racks r 0) k) _ (not_from_false _ (and_right (eqb k x) _ (other-rack r e))))
      ]

-- w is the set of the place i of some sets, and w' has the number x more
module _ (sets : List ℕ) (i x w w' : ℕ) (full : i < length sets) (is : w ≡ get_or sets i w) (more : (k : ℕ) → member w' k ≡ (member w k || eqb k x)) where
  at-place : (u : ℕ) → u / 32 % 8 ≡ i → noted (set sets i w') u ≡ (noted sets u || eqb (u % 32) x)
  at-place u e =
      ap (λ z. member (get_or (set sets i w') z 0) (u % 32)) e
      ∙ (ap (λ z. member z (u % 32)) (get_or-set_same sets i w' 0 full) ∙ (more (u % 32)
      ∙ ap (λ z. member z (u % 32) || eqb (u % 32) x) (is ∙ get_or_default sets i w 0 full ∙ ap (λ z. get_or sets z 0) (sym e))))

  pub noted-kept : (u : ℕ) → noted sets u ≡ true → noted (set sets i w') u ≡ true
  noted-kept u h =
      elim (cases_eq (u / 32 % 8) i) [
        | inl e ↦ at-place u e ∙ ap (λ b. b || eqb (u % 32) x) h
        | inr e ↦ ap (λ z. member z (u % 32)) (get_or-set_other sets i (u / 32 % 8) w' 0 e) ∙ h
      ]

  pub noted-own : (u : ℕ) → u / 32 % 8 ≡ i → u % 32 ≡ x → noted (set sets i w') u ≡ true
  noted-own u e q = at-place u e ∙ or_right (noted sets u) (eqb (u % 32) x) (eq-eqb (u % 32) x q)

-- a block of the rack r that sits, and so is noted, is not at a node that is not
pub unnoted : (sets : List ℕ) (r u : ℕ) (o : Option Seat) → lies_in r o ≡ true → has_noted sets o ≡ true → noted sets u ≡ false → node_of o ≡ u → ⊥
unnoted sets r u None i h n e = false≢true i
unnoted sets r u (Some q) i h n e = false≢true (sym n ∙ (ap (noted sets) (sym e) ∙ h))

-- all that sit stay noted where more is noted and one block has another seat that is
pub known-more : (was is : List ℕ) (at : List (Option Seat)) (i : ℕ) (o : Option Seat) → i < length at → ((u : ℕ) → noted was u ≡ true → noted is u ≡ true)
    → has_noted is o ≡ true → ((k : ℕ) → has_noted was (seat_of at k) ≡ true) → (k : ℕ) → has_noted is (seat_of (set at i o) k) ≡ true
known-more was is at i o l kept own known k =
    elim (cases_eq k i) [
      | inl e ↦ ap (λ z. has_noted is (seat_of (set at i o) z)) e ∙ (ap (has_noted is) (get_or-set_same at i o None l) ∙ own)
      | inr e ↦ ap (has_noted is) (get_or-set_other at i k o None e) ∙ still (seat_of at k) (known k)
    ]
  where
    still : (q : Option Seat) → has_noted was q ≡ true → has_noted is q ≡ true
    still None h = refl
    still (Some q) h = kept q.node.0 h
