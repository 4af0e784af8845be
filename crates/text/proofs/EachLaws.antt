-- Texts one after the other: how long they are, and a loop that puts them.
use Prim.Native.Nat.{ℕ, zero, suc, ◌+◌, ◌*◌, ◌≤◌, ◌<◌}
use mathlib.Core.Path.{◌≡◌, refl, sym, ap, ◌∙◌}
use mathlib.Core.List.{List, ◌++◌, append-nil, append_assoc}
use native.Mathlib.Nat.{suc-mul, le_step, lt-suc_self}
use native.Mathlib.Numerals.{add-one}
use native.Mathlib.Omega.{arith}
use lib.ListN.{length, length-append}
use Rattle.text.specs.Written.{appended}
use Rattle.text.specs.Lines.{each}
use Rattle.text.proofs.PutLaws.{appended-fits}

pub length-each : (n most : ℕ) (f : ℕ → List ℕ) → ((i : ℕ) → length (f i) ≤ most) → length (each n f) ≤ n * most
unfolding each
length-each zero most f each-most = omega arith
length-each (suc n) most f each-most =
    let more : length (each n f ++ f n) ≡ length (each n f) + length (f n) = length-append (each n f) (f n) in
    let turn : suc n * most ≡ n * most + most = suc-mul n most in
    omega (arith, more, turn, length-each n most f each-most, each-most n)

-- the same texts make the same text
pub each_same : (n : ℕ) (f g : ℕ → List ℕ) → ((i : ℕ) → i < n → f i ≡ g i) → each n f ≡ each n g
unfolding each
each_same zero f g same = refl
each_same (suc n) f g same =
    let before : each n f ≡ each n g = each_same n f g (λ i l. same i (le_step l)) in
    let last : f n ≡ g n = same n (lt-suc_self n) in
    cc

-- a loop that puts texts after another: before the first turn, and a turn, where each text has at most so many bytes
pub each-none : (f : ℕ → List ℕ) (start : List ℕ) → start ≡ start ++ each 0 f
unfolding each
each-none f start = sym (append-nil start)

pub each-more : (i : ℕ) (f : ℕ → List ℕ) → each (i + 1) f ≡ each i f ++ f i
unfolding each
each-more i f = ap (λ (j : ℕ). each j f) (add-one i)

pub each_turn : (most : ℕ) (f : ℕ → List ℕ) → ((i : ℕ) → length (f i) ≤ most) → (room i : ℕ) (start l m : List ℕ) →
    length start + (i * most + most) ≤ room → l ≡ start ++ each i f → m ≡ appended room (f i) l → m ≡ start ++ each (i + 1) f
each_turn most f few room i start l m fit before turn =
    let fits : length l + length (f i) ≤ room =
    omega (arith, ap length before, length-append start (each i f), length-each i most f few, few i) in
    turn
    ∙ appended-fits room (f i) l fits
    ∙ ap (λ (t : List ℕ). t ++ f i) before
    ∙ append_assoc start (each i f) (f i)
    ∙ ap (λ (t : List ℕ). start ++ t) (sym (each-more i f))

-- and after the last turn
pub each-end : (i n : ℕ) (f : ℕ → List ℕ) (l : List ℕ) → i ≤ n → n ≤ i → l ≡ each i f → l ≡ each n f
each-end i n f l up down whole = let same : i ≡ n = omega arith in whole ∙ ap (λ (k : ℕ). each k f) same
