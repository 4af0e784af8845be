-- The rule of a record by its kind, over the fields as they were taken out of the key.
use Prim.Native.Nat.{ℕ, ◌≤◌, ◌<◌, zero-le}
use mathlib.Core.Path.{◌≡◌, refl, sym, ◌∙◌}
use mathlib.Core.Bool.{Bool, true, false, ◌&&◌, ◌||◌, not, and-false, false≢true}
use mathlib.Core.Logic.{⊎_elim}
use native.Mathlib.Omega.{arith}
use borrow.Author.Tests.{eqb-true, eqb-false, le-leb, lt-leb, ne_eqb, leb-true}
use lib.Dec.{ltb, leb, eqb}
use Rattle.base.specs.Choice.{pick}
use Rattle.base.proofs.ChoiceLaws.{and_left, and_right, pick-by}
use Rattle.sheet_keys.specs.Key.{kind_of, holder_of, intertie_of, rank_of, years_of}
use Rattle.sheet_records.specs.Refusal.{record_stands, within}
use Rattle.sheet_reading.specs.Workers.Kinds.{names_holder, names_intertie, names_rank, names_years, least_of, most_of, rule_of}
use Rattle.sheet_reading.specs.declared.rules.Rule.{Rule}
use Rattle.base.proofs.ChoiceLaws.{le-or-lt}

-- one of two tests, as a third says
pub one_of : (n a b : Bool) → (n && a || not n && b) ≡ pick n a b
one_of true true b = refl
one_of true false b = refl
one_of false a b = refl

-- no quantity is from 1 to 0
none_within : (kw : ℕ) → within 1 0 kw ≡ false
none_within kw = go (leb 1 kw) refl
  where
    go : (b : Bool) → leb 1 kw ≡ b → (b && leb kw 0) ≡ false
    go true t = let l = leb-true 1 kw t in lt-leb kw 0 (omega arith)
    go false t = refl

module _ (I H kw k h i r y : ℕ) where
  -- a record by what its kind says
  abbrev by_kind : Bool
  by_kind =
      pick (names_holder k) (ltb h H) (eqb h 0)
      && pick (names_intertie k) (ltb i I) (eqb i 0)
      && pick (names_rank k) (leb 1 r) (eqb r 0)
      && pick (names_years k) (within 1 30 y) (eqb y 0)
      && within (least_of k) (most_of k) kw

  -- kinds 0 and 7 to 15
  no_kind : (k ≡ 1 → ⊥) → (k ≡ 2 → ⊥) → (k ≡ 3 → ⊥) → within 4 5 k ≡ false → (k ≡ 6 → ⊥) → within (least_of k) (most_of k) kw ≡ false
  no_kind n₁ n₂ n₃ n₄ n₆ =
      ⊎_elim
      (λ (l : k ≤ 0). let e : k ≡ 0 = omega arith in rw e (none_within kw))
      (λ (l : 0 < k). simp (ne_eqb k 1 n₁, ne_eqb k 3 n₃, le-leb 1 k l, lt-leb k 6 (past l)) (none_within kw))
      (le-or-lt k 0)
    where
      past : 0 < k → 6 < k
      past l =
          ⊎_elim
          (λ (m : k ≤ 6). absurd (false≢true (sym n₄ ∙ simp (le-leb 4 k (omega arith), le-leb k 5 (omega arith)))))
          (λ (m : 6 < k). m)
          (le-or-lt k 6)

  by-its-kind : (key : ℕ) → k ≡ kind_of key → h ≡ holder_of key → i ≡ intertie_of key → r ≡ rank_of key → y ≡ years_of key → by_kind ≡ record_stands I H key kw
  unfolding record_stands
  by-its-kind key ek eh ei er ey =
      rw (← ek, ← eh, ← ei, ← er, ← ey)
      (pick-by (λ (b : Bool). by_kind ≡ b) (eqb k 1) _ _
      (λ t. let e = eqb-true k 1 t in simp (e, le-leb 0 kw zero-le))
      (λ n₁. pick-by (λ (b : Bool). by_kind ≡ b) (eqb k 2) _ _
      (λ t. let e = eqb-true k 2 t in simp e)
      (λ n₂. pick-by (λ (b : Bool). by_kind ≡ b) (eqb k 3) _ _
      (λ t. let e = eqb-true k 3 t in simp (e, le-leb 0 kw zero-le))
      (λ n₃. pick-by (λ (b : Bool). by_kind ≡ b) (within 4 5 k) _ _
      (λ t.
      let l = leb-true 4 k (and_left (leb 4 k) (leb k 5) t) in
      let m = leb-true k 5 (and_right (leb 4 k) (leb k 5) t) in
      simp (n₁, n₃, ne_eqb k 6 (λ e. omega arith), le-leb 3 k (omega arith), le-leb k 6 (omega arith), lt-leb k 2 (omega arith), le-leb 4 k l, le-leb 1 k (omega arith)))
      (λ n₄. pick-by (λ (b : Bool). by_kind ≡ b) (eqb k 6) _ _
      (λ t. let e = eqb-true k 6 t in simp e)
      (λ n₆. simp (no_kind (eqb-false k 1 n₁) (eqb-false k 2 n₂) (eqb-false k 3 n₃) n₄ (eqb-false k 6 n₆), and-false)))))))

  -- the same from the code's tests
  pub record-rule : (key : ℕ) (rule : Rule) (a b c d w : Bool)
      → k ≡ kind_of key → h ≡ holder_of key → i ≡ intertie_of key → r ≡ rank_of key → y ≡ years_of key → rule ≡ rule_of k
      → a ≡ pick rule.holder (ltb h H) (eqb h 0) → b ≡ pick rule.intertie (ltb i I) (eqb i 0) → c ≡ pick rule.rank (leb 1 r) (eqb r 0)
      → d ≡ pick rule.years (within 1 30 y) (eqb y 0) → w ≡ within rule.least rule.most kw
      → (a && b && c && d && w) ≡ record_stands I H key kw
  record-rule key rule a b c d w ek eh ei er ey e ea eb ec ed ew =
      rw (ea, eb, ec, ed, ew, e) (by-its-kind key ek eh ei er ey)
