-- The unused places of a list in fixed room.
use Rattle.std.proofs.Common.{◌≡◌, ℕ, suc, ◌+◌, ◌-◌, ◌<◌, ◌≤◌, List, ◌∷◌, ◌++◌, length, get_or, take, drop, set, replicate, sym, ap, ◌∙◌, arith, take-append-drop, length-take-le}
use Rattle.std.proofs.lemmas.List.{drop_more, drop-set-lt}

tail : {X : Type 0} (x y : X) (xs ys : List X) → x ∷ xs ≡ y ∷ ys → xs ≡ ys
tail x y xs ys e = cc

-- the places past one more item are blank as before
pub blank-more : {X : Type 0} (m n : ℕ) (xs : List X) (y z : X) → n < length xs → n < m → drop n xs ≡ replicate (m - n) z
    → drop (n + 1) (set xs n y) ≡ replicate (m - (n + 1)) z
blank-more m n xs y z h k e =
    let p : m - n ≡ suc (m - (n + 1)) = omega arith in
    let q : get_or xs n y ∷ drop (n + 1) xs ≡ replicate (suc (m - (n + 1))) z = sym (drop_more xs n y h) ∙ (e ∙ ap (λ j. replicate j z) p) in
    drop-set-lt (n + 1) xs n y (omega arith) ∙ tail _ _ _ _ q

pub front-len : {X : Type 0} (m n : ℕ) (xs : List X) → n ≤ m → length xs ≡ m → length (take n xs) ≡ n
front-len m n xs h e = length-take-le n xs (omega arith)

-- the room is the items and then blanks
pub whole : {X : Type 0} (m n : ℕ) (xs : List X) (z : X) → n ≤ m → length xs ≡ m → drop n xs ≡ replicate (m - n) z
    → take n xs ++ replicate (m - length (take n xs)) z ≡ xs
whole m n xs z h e d = ap (λ k. take n xs ++ replicate (m - k) z) (front-len m n xs h e) ∙ (ap (λ ys. take n xs ++ ys) (sym d) ∙ take-append-drop n xs)
