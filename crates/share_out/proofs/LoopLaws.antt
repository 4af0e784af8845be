-- A pass as the code makes it: parts by weight holder after holder, then served in turn if all those are 0; and pass after pass.
use Prim.Native.Nat.{ℕ, suc, ◌+◌, ◌-◌, ◌*◌, ◌/◌, ◌≤◌, ◌<◌, min, zero-le}
use mathlib.Core.Path.{◌≡◌, refl, sym, ap, ◌∙◌}
use mathlib.Core.Bool.{◌&&◌}
use mathlib.Core.List.{List}
use mathlib.Core.Logic.{⊎_elim}
use native.Mathlib.Nat.{le_refl, le_trans, eq-zero-or-pos, div-zero, pos_of_ne-zero, sub-zero}
use native.Mathlib.Omega.{arith}
use lib.ListN.{length, set, length-set}
use lib.Seq.{ext_get_or}
use lib.Dec.{ltb}
use borrow.Author.Tests.{eq-eqb, ne_eqb}
use Rattle.base.specs.Choice.{pick}
use Rattle.base.specs.Sums.{sum_to}
use Rattle.base.specs.Words.{at, fill, tab}
use Rattle.base.proofs.SumLaws.{sum_to-zero, sum_to-more, sum_to-mono, sum_to-none, sum_to-zeros, sum_to-same, sum_to-term, sum_to-bound}
use Rattle.base.proofs.WordLaws.{fill-zero, fill-turn, fill-whole, at_fill, at-fill-past, tab-same, at-tab, length-tab}
use Rattle.share_out.specs.Turn.{in_turn}
use Rattle.share_out.specs.Pass.{unmet, is_open, open_weight, open_weights, by_weight, one_each, unweighted, pass_kw, pass_total, pass_grants}
use Rattle.share_out.specs.Rule.{run_passes, claimed, shared}
use Rattle.share_out.specs.Workers.Fit.{AtMost, Weighed, Rated, Serving, Raised, Completed, Ready, none, single}
use Rattle.share_out.proofs.PassLaws.{open-weight-first, open-weight-part, open-weight-after, open_is, open_weight-most, by_weight-is, by_weight-within, pass_total-within, pass_total-pos, pass_total-last}
use Rattle.share_out.proofs.RunLaws.{Running, at_none, running-first, running-next, run-empty, run-pass}
use Rattle.share_out.proofs.Promise.{shared-passes}

-- after i holders have got kw each on top of g
pub record Given (kw : ℕ → ℕ) (g : List ℕ) (n : ℕ) (grants : List ℕ) (given i : ℕ) : Type 0 where
  pub inside : i ≤ n
  pub size : length grants ≡ length g
  pub total : given ≡ sum_to i kw
  pub written : grants ≡ fill i (λ j. at g j + kw j) g

module _ (kw : ℕ → ℕ) (g : List ℕ) (n : ℕ) where
  pub given-none : Given kw g n g 0 0
  given-none = record { inside = zero-le; size = refl; total = sym (sum_to-zero kw); written = sym (fill-zero _ g) }

  -- a holder whose turn is to come has its grant from before
  pub given-later : (grants : List ℕ) (given i : ℕ) → Given kw g n grants given i → at grants i ≡ at g i
  given-later grants given i s = ap (λ l. at l i) s.written ∙ at-fill-past i (λ j. at g j + kw j) g i (le_refl i)

  pub given-next : (grants : List ℕ) (given i k : ℕ) → Given kw g n grants given i → i < n → k ≡ kw i →
      Given kw g n (set grants i (at grants i + k)) (given + k) (i + 1)
  given-next grants given i k s l e =
      record {
        inside = omega arith;
        size = length-set grants i (at grants i + k) ∙ s.size;
        total = omega (arith, s.total, sum_to-more i kw);
        written =
            fill-turn i (λ j. at g j + kw j) g grants (at grants i + k) s.written (rw (given-later grants given i s, e));
      }

  -- what is given so far is within what all get
  pub given-most : (grants : List ℕ) (given i k : ℕ) → Given kw g n grants given i → i < n → k ≡ kw i → given + k ≤ sum_to n kw
  given-most grants given i k s l e = omega (arith, s.total, sum_to-more i kw, sum_to-mono (i + 1) n kw (omega arith))

  pub given-all : (grants : List ℕ) (given i : ℕ) → length g ≡ n → Given kw g n grants given i → n ≤ i → Raised given grants n g kw
  given-all grants given i size s l =
      let end : i ≡ n = omega (arith, s.inside) in
      record {
        total = s.total ∙ ap (λ k. sum_to k kw) end;
        grants = s.written ∙ ap (λ k. fill k (λ j. at g j + kw j) g) end ∙ fill-whole n (λ j. at g j + kw j) g size;
      }

-- after i places have been noted as f gives them, with their sum
pub record Noted (f : ℕ → ℕ) (before : List ℕ) (n : ℕ) (noted : List ℕ) (total i : ℕ) : Type 0 where
  pub inside : i ≤ n
  pub size : length noted ≡ length before
  pub sum : total ≡ sum_to i f
  pub written : noted ≡ fill i f before

module _ (f : ℕ → ℕ) (before : List ℕ) (n : ℕ) where
  pub noted-none : Noted f before n before 0 0
  noted-none = record { inside = zero-le; size = refl; sum = sym (sum_to-zero f); written = sym (fill-zero f before) }

  -- a place whose turn is to come is as before
  pub noted-later : (noted : List ℕ) (total i : ℕ) → Noted f before n noted total i → at noted i ≡ at before i
  noted-later noted total i s = ap (λ l. at l i) s.written ∙ at-fill-past i f before i (le_refl i)

  pub noted-next : (noted : List ℕ) (total i x : ℕ) → Noted f before n noted total i → i < n → x ≡ f i →
      Noted f before n (set noted i x) (total + x) (i + 1)
  noted-next noted total i x s l e =
      record {
        inside = omega arith;
        size = length-set noted i x ∙ s.size;
        sum = omega (arith, s.sum, sum_to-more i f);
        written = fill-turn i f before noted x s.written e;
      }

  -- the sum so far, with values of at most `most`
  pub noted-most : (most : ℕ) (noted : List ℕ) (total i x : ℕ) → ((j : ℕ) → j < n → f j ≤ most) →
      Noted f before n noted total i → i < n → x ≡ f i → total + x ≤ n * most
  noted-most most noted total i x bound s l e =
      omega (arith, s.sum, sum_to-more i f, sum_to-mono (i + 1) n f (omega arith), sum_to-bound n most f bound)

-- after the last holder, the weights are noted and W is known
pub noted-weights : (claims weights g before noted : List ℕ) (all i : ℕ) → length claims ≤ 32 → length before ≡ 32 →
    Noted (open_weight claims weights g) before (length claims) noted all i → length claims ≤ i → Weighed all claims weights g noted
unfolding open_weights
noted-weights claims weights g before noted all i few room s l =
    let end : i ≡ length claims = omega (arith, s.inside) in
    record {
      room = s.size ∙ room;
      total = s.sum ∙ ap (λ k. sum_to k (open_weight claims weights g)) end;
      each = λ j m.
          ap (λ l. at l j) s.written
          ∙ at_fill i (open_weight claims weights g) before j (omega arith) (omega arith);
    }

-- before anything is granted, the unmet claim is the claim
pub first-is : (claims weights : List ℕ) (i x : ℕ) → i < length claims → x ≡ pick (ltb 0 (at claims i)) (at weights i) 0 →
    x ≡ open_weight claims weights (none claims) i
unfolding is_open
first-is claims weights i x l e =
    let same : at claims i ≡ unmet claims (none claims) i = omega (arith, at_none claims weights i l) in
    e ∙ ap (λ (u : ℕ). pick (ltb 0 u) (at weights i) 0) same ∙ open-weight-first (unmet claims (none claims) i) (at weights i)

-- grants raised by nothing are as they were
raised-none : (kw : ℕ → ℕ) (g after : List ℕ) (n given : ℕ) → length g ≡ n → Raised given after n g kw → given ≡ 0 → after ≡ g
raised-none kw g after n given size r z =
    r.grants
    ∙ ext_get_or 0 (tab n (λ i. at g i + kw i)) g (length-tab n _ ∙ sym size)
    (λ i h.
    let l : i < n = omega (arith, length-tab n (λ j. at g j + kw j)) in
    omega (arith, at-tab n (λ j. at g j + kw j) i l, sum_to-none n kw (sym r.total ∙ z) i l))

module _ (claims weights : List ℕ) where
  -- the grants once each holder has its part by weight
  abbrev pub weighted : ℕ → List ℕ → List ℕ
  weighted R g = tab (length claims) (λ i. at g i + by_weight claims weights R g i)

  -- an open holder's weight is among those that W sums, so the pass's rate holds for it
  pub rated-open : (R : ℕ) (g brought : List ℕ) (i all rate w : ℕ) →
      R ≤ 20000000 → AtMost (length claims) weights 100000000 → i < length claims →
      Weighed all claims weights g brought → rate ≡ R * 274877906944 / all → w ≡ at brought i →
      Rated R w all rate
  unfolding open_weights
  rated-open R g brought i all rate w pooled ranged l a r e =
      let same : w ≡ open_weight claims weights g i = e ∙ a.each i l in
      record {
        pooled = pooled;
        weighted = omega (arith, open_weight-most claims weights 100000000 g i (ranged i l));
        among = omega (arith, a.total, sum_to-term (length claims) (open_weight claims weights g) i l);
        rated = r;
      }

  -- the part by weight as the code finds it
  pub part-is : (R : ℕ) (g grants brought : List ℕ) (i all u w part kw : ℕ) → i < length claims → Weighed all claims weights g brought →
      at grants i ≡ at g i → u ≡ at claims i - at grants i → w ≡ at brought i → part ≡ R * w / all → kw ≡ min u part →
      kw ≡ by_weight claims weights R g i
  unfolding is_open
  part-is R g grants brought i all u w part kw l a same e v d h =
      rw (h, d, v, a.each i l, a.total, e, same)
      (open-weight-part R (at weights i) (open_weights claims weights g) (unmet claims g i) ∙ sym (by_weight-is claims weights R g i))

  -- and the weight that the holder then brings
  pub after_is : (R : ℕ) (g grants brought : List ℕ) (i all u w part kw x : ℕ) → i < length claims → Weighed all claims weights g brought →
      at grants i ≡ at g i → u ≡ at claims i - at grants i → w ≡ at brought i → part ≡ R * w / all → kw ≡ min u part →
      x ≡ pick (ltb part u) w 0 → x ≡ open_weight claims weights (weighted R g) i
  unfolding is_open
  after_is R g grants brought i all u w part kw x l a same e v d h y =
      let left : u - min u part ≡ unmet claims (weighted R g) i =
      omega (
        arith,
        h,
        part-is R g grants brought i all u w part kw l a same e v d h,
        at-tab (length claims) (λ j. at g j + by_weight claims weights R g j) i l,
      ) in
      let was : u ≡ unmet claims g i = rw (e, same) in
      y ∙ ap (λ (k : ℕ). pick (ltb part u) k 0) (v ∙ a.each i l ∙ ap (λ (k : ℕ). pick (ltb 0 k && ltb 0 (at weights i)) (at weights i) 0) (sym was))
      ∙ open-weight-after part u (at weights i)
      ∙ ap (λ (k : ℕ). pick (ltb 0 k && ltb 0 (at weights i)) (at weights i) 0) left

  -- the three kinds of pass
  kind-unweighted : (R : ℕ) (g : List ℕ) (i : ℕ) → open_weights claims weights g ≡ 0 → pass_kw claims weights R g i ≡ unweighted claims weights R g i
  unfolding pass_kw
  kind-unweighted R g i z = rw (eq-eqb (open_weights claims weights g) 0 z)

  kind-one_each : (R : ℕ) (g : List ℕ) (i : ℕ) → 0 < open_weights claims weights g → sum_to (length claims) (by_weight claims weights R g) ≡ 0 →
      pass_kw claims weights R g i ≡ one_each claims weights R g i
  unfolding pass_kw
  kind-one_each R g i p z =
      rw (ne_eqb (open_weights claims weights g) 0 (omega arith), eq-eqb (sum_to (length claims) (by_weight claims weights R g)) 0 z)

  kind-by_weight : (R : ℕ) (g : List ℕ) (i : ℕ) → 0 < open_weights claims weights g → 0 < sum_to (length claims) (by_weight claims weights R g) →
      pass_kw claims weights R g i ≡ by_weight claims weights R g i
  unfolding pass_kw
  kind-by_weight R g i p q =
      rw (ne_eqb (open_weights claims weights g) 0 (omega arith), ne_eqb (sum_to (length claims) (by_weight claims weights R g)) 0 (omega arith))

  -- with none open the parts by weight are 0
  none-by-weight : (R : ℕ) (g : List ℕ) → open_weights claims weights g ≡ 0 → sum_to (length claims) (by_weight claims weights R g) ≡ 0
  none-by-weight R g z =
      sum_to-zeros (length claims) (by_weight claims weights R g)
      (λ i l.
      let d : R * at weights i / open_weights claims weights g ≡ 0 = rw (z, div-zero) in
      omega (arith, by_weight-is claims weights R g i))

  -- grants raised by what the pass gives are the pass's
  pub Passed : ℕ → List ℕ → ℕ → List ℕ → Type 0
  Passed R g given after = (given ≡ pass_total claims weights R g) × (after ≡ pass_grants claims weights R g)

  raised-pass : (R : ℕ) (g : List ℕ) (kw : ℕ → ℕ) (given : ℕ) (after : List ℕ) →
      ((i : ℕ) → i < length claims → pass_kw claims weights R g i ≡ kw i) → Raised given after (length claims) g kw → Passed R g given after
  unfolding Passed pass_total pass_grants
  raised-pass R g kw given after same r = (
    r.total ∙ sum_to-same (length claims) kw (pass_kw claims weights R g) (λ i l. sym (same i l)),
    r.grants ∙ tab-same (length claims) _ _ (λ i l. ap (λ k. at g i + k) (sym (same i l))),
  )

  -- serving open holders singly by the weights they bring is the leftover rule
  singly-is : (R all : ℕ) (g brought : List ℕ) (i : ℕ) → i < length claims → Weighed all claims weights g brought →
      one_each claims weights R g i ≡ in_turn R (single brought) i
  unfolding one_each
  singly-is R all g brought i l a =
      let one : (j : ℕ) → j < length claims → pick {A = ℕ} (is_open claims weights g j) 1 0 ≡ pick (ltb 0 (at brought j)) 1 0 =
      λ j m. ap (λ b. pick {A = ℕ} b 1 0) (sym (ap (ltb 0) (a.each j m) ∙ open_is claims weights g j)) in
      let sum : sum_to i (λ j. pick {A = ℕ} (is_open claims weights g j) 1 0) ≡ sum_to i (single brought) =
      sum_to-same i _ _ (λ j m. one j (omega arith)) in
      omega (arith, one i l)

  -- the code's pass is the definition's
  pub completed-pass : (R : ℕ) (g before after brought : List ℕ) (given all still r : ℕ) → length g ≡ length claims →
      all ≡ open_weights claims weights g → Raised given before (length claims) g (by_weight claims weights R g) →
      Weighed still claims weights before brought → Completed given R all r claims brought before after → Passed R g r after
  unfolding unweighted
  completed-pass R g before after brought given all still r size a raised w done =
      ⊎_elim
      (λ (z : given ≡ 0).
      let back : before ≡ g = raised-none (by_weight claims weights R g) g before (length claims) given size raised z in
      let nothing : sum_to (length claims) (by_weight claims weights R g) ≡ 0 = sym raised.total ∙ z in
      ⊎_elim
      (λ (closed : all ≡ 0).
      raised-pass R g _ r after (λ i l. kind-unweighted R g i (sym a ∙ closed)) (rw back at (done.unweighted z closed)))
      (λ (some : 0 < all).
      raised-pass R g _ r after (λ i l. kind-one_each R g i (omega arith) nothing ∙ singly-is R still g brought i l (rw back at w))
      (rw back at (done.singly z some)))
      (eq-zero-or-pos all))
      (λ (p : 0 < given).
      let some : 0 < open_weights claims weights g =
      pos_of_ne-zero (λ z. absurd (omega (arith, none-by-weight R g z, raised.total))) in
      let kept : (r ≡ given) × (after ≡ before) = done.stands p in
      raised-pass R g (by_weight claims weights R g) r after (λ i l. kind-by_weight R g i some (omega (arith, raised.total)))
      (record { total = kept.0 ∙ raised.total; grants = kept.1 ∙ raised.grants }))
      (eq-zero-or-pos given)

  -- while the pool lasts, the weights noted in a pass are those of the next: a pass that served in turn has emptied it
  pub weighed-next : (R : ℕ) (g before after brought : List ℕ) (given all still r : ℕ) → R ≤ sum_to (length claims) (unmet claims g) →
      Raised given before (length claims) g (by_weight claims weights R g) → Weighed still claims weights before brought →
      Completed given R all r claims brought before after → Passed R g r after → 0 < R - r → Weighed still claims weights after brought
  unfolding Passed
  weighed-next R g before after brought given all still r short raised w done pass rest =
      ⊎_elim
      (λ (z : given ≡ 0). absurd (omega (arith, pass.0, pass_total-last claims weights R g short (sym raised.total ∙ z))))
      (λ (p : 0 < given). rw (done.stands p).1 w)
      (eq-zero-or-pos given)

-- where a pass may begin: the running facts, and that going on from here is the share-out
pub record Passing (pool : ℕ) (claims weights g : List ℕ) (left made : ℕ) : Type 0 where
  pub running : Running claims pool made left g
  pub same : shared pool claims weights ≡ run_passes claims weights (pool - made) made left g

module _ (pool : ℕ) (claims weights : List ℕ) where
  pub passing-first : pool < claimed claims → Passing pool claims weights (none claims) pool 0
  passing-first less =
      record {
        running = running-first claims weights pool less;
        same = rw (sub-zero pool) (shared-passes pool claims weights less);
      }

  pub passing-next : (g after : List ℕ) (left made given : ℕ) → Passing pool claims weights g left made → 0 < left →
      Passed claims weights left g given after → Passing pool claims weights after (left - given) (made + 1)
  unfolding Passed
  passing-next g after left made given p some done =
      let run : Running claims pool made left g = p.running in
      let one : pool - made ≡ suc (pool - (made + 1)) = omega (arith, run.counted) in
      rw (done.0, done.1)
      (record {
        running = running-next claims weights pool made left g run some;
        same =
            p.same ∙ ap (λ k. run_passes claims weights k made left g) one
            ∙ run-pass claims weights (pool - (made + 1)) made left g some;
      })

  -- what a pass gives is within the pool, and above 0
  pub passed-within : (g after : List ℕ) (left given : ℕ) → Passed claims weights left g given after → given ≤ left
  unfolding Passed
  passed-within g after left given done = omega (arith, done.0, pass_total-within claims weights left g)

  pub passed-some : (g after : List ℕ) (left made given : ℕ) → Passing pool claims weights g left made → 0 < left →
      Passed claims weights left g given after → 0 < given
  unfolding Passed
  passed-some g after left made given p some done =
      omega (arith, done.0, pass_total-pos claims weights left g some p.running.short)

  -- with the pool empty the share-out is done
  pub passing-last : (g : List ℕ) (left made : ℕ) → Passing pool claims weights g left made → left ≡ 0 →
      shared pool claims weights ≡ record { grants = g; passes = made }
  passing-last g left made p z =
      p.same ∙ ap (λ k. run_passes claims weights (pool - made) made k g) z ∙ run-empty claims weights (pool - made) made g

-- `by_passes` between two passes: `left` of the pool is left, and while the pool lasts `brought` has the weights that `all` sums
pub record Between (pool : ℕ) (claims weights g brought : List ℕ) (left all made : ℕ) : Type 0 where
  pub passing : Passing pool claims weights g left made
  pub weighed : 0 < left → Weighed all claims weights g brought

-- and within a pass: i holders have their parts by weight on top of g, and the weights that they then bring are noted
pub record Turns (R : ℕ) (claims weights g brought grants noted : List ℕ) (given still i : ℕ) : Type 0 where
  pub parts : Given (by_weight claims weights R g) g (length claims) grants given i
  pub notes : Noted (open_weight claims weights (weighted claims weights R g)) brought (length claims) noted still i

-- and after the last holder's turn
pub record Turned (R : ℕ) (claims weights g grants noted : List ℕ) (given still : ℕ) : Type 0 where
  pub raised : Raised given grants (length claims) g (by_weight claims weights R g)
  pub weighed : Weighed still claims weights grants noted

pub between-first : {pool all : ℕ} {claims weights grants brought : List ℕ} → Ready pool claims weights grants →
    Weighed all claims weights (none claims) brought → Between pool claims weights grants brought pool all 0
between-first {pool} {all} {claims} {weights} {grants} {brought} r w =
    rw r.fresh (record { passing = passing-first pool claims weights r.short; weighed = λ some. w })

pub turns-none : {R : ℕ} {claims weights g brought : List ℕ} → Turns R claims weights g brought g brought 0 0 0
turns-none {R} {claims} {weights} {g} {brought} = record { parts = given-none _ g (length claims); notes = noted-none _ brought (length claims) }

module _ {pool R all made given still i : ℕ} {claims weights g brought grants noted : List ℕ} (b : Between pool claims weights g brought R all made) (some : 0 < R)
    (t : Turns R claims weights g brought grants noted given still i) where
  later-grant : at grants i ≡ at g i
  later-grant = given-later _ g (length claims) grants given i t.parts

  later-weight : at noted i ≡ at brought i
  later-weight = noted-later _ brought (length claims) noted still i t.notes

  -- a holder whose turn is to come has no more than its claim
  pub turns-unmet : i < length claims → at grants i ≤ at claims i
  turns-unmet l = omega (arith, later-grant, b.passing.running.within i l)

  pub turns-rated : {rate : ℕ} {fresh : List ℕ} → Ready pool claims weights fresh → i < length claims → rate ≡ R * 274877906944 / all → Rated R (at noted i) all rate
  turns-rated {rate} r l e =
      rated-open claims weights R g brought i all rate (at noted i) (omega (arith, r.pooled, b.passing.running.counted)) r.weighted l
      (b.weighed some) e later-weight

  -- its part by weight as the code finds it
  pub turns-kw : {part kw : ℕ} → i < length claims → part ≡ R * at noted i / all → kw ≡ min (at claims i - at grants i) part →
      kw ≡ by_weight claims weights R g i
  turns-kw {part} {kw} l d h =
      part-is claims weights R g grants brought i all _ (at noted i) part kw l (b.weighed some) later-grant refl later-weight d h

  -- and the weight that it then brings
  pub turns-weight : {part kw x : ℕ} → i < length claims → part ≡ R * at noted i / all → kw ≡ min (at claims i - at grants i) part →
      x ≡ pick (ltb part (at claims i - at grants i)) (at noted i) 0 → x ≡ open_weight claims weights (weighted claims weights R g) i
  turns-weight {part} {kw} {x} l d h y =
      after_is claims weights R g grants brought i all _ (at noted i) part kw x l (b.weighed some) later-grant refl later-weight d h y

  -- what is given so far is within what is left
  pub turns-given : {part kw : ℕ} → i < length claims → part ≡ R * at noted i / all → kw ≡ min (at claims i - at grants i) part → given + kw ≤ R
  turns-given {part} {kw} l d h =
      le_trans (given-most _ g (length claims) grants given i kw t.parts l (turns-kw l d h)) (by_weight-within claims weights R g)

  -- and the weights noted are few
  pub turns-still : {part kw x : ℕ} {fresh : List ℕ} → Ready pool claims weights fresh → i < length claims → part ≡ R * at noted i / all →
      kw ≡ min (at claims i - at grants i) part → x ≡ pick (ltb part (at claims i - at grants i)) (at noted i) 0 → still + x ≤ length claims * 100000000
  turns-still {part} {kw} {x} r l d h y =
      noted-most _ brought (length claims) 100000000 noted still i x
      (λ j m. open_weight-most claims weights 100000000 (weighted claims weights R g) j (r.weighted j m)) t.notes l (turns-weight l d h y)

  pub turns-next : {part kw x : ℕ} → i < length claims → part ≡ R * at noted i / all → kw ≡ min (at claims i - at grants i) part →
      x ≡ pick (ltb part (at claims i - at grants i)) (at noted i) 0 →
      Turns R claims weights g brought (set grants i (at grants i + kw)) (set noted i x) (given + kw) (still + x) (i + 1)
  turns-next {part} {kw} {x} l d h y =
      record {
        parts = given-next _ g (length claims) grants given i kw t.parts l (turns-kw l d h);
        notes = noted-next _ brought (length claims) noted still i x t.notes l (turns-weight l d h y);
      }

  pub turned : {fresh : List ℕ} → Ready pool claims weights fresh → length claims ≤ i → Turned R claims weights g grants noted given still
  turned r end =
      let raised : Raised given grants (length claims) g (by_weight claims weights R g) =
      given-all _ g (length claims) grants given i b.passing.running.size t.parts end in
      record {
        raised = raised;
        weighed = rw raised.grants
            (noted-weights claims weights (weighted claims weights R g) brought noted still i r.sized.few (b.weighed some).room t.notes end);
      }

  -- what serving in turn may rely on
  pub turned-serving : {fresh : List ℕ} → Ready pool claims weights fresh → length claims ≤ i → Serving R claims grants
  turned-serving r end =
      let run = b.passing.running in
      record {
        few = r.sized.few;
        granted = t.parts.size ∙ run.size;
        pooled = omega (arith, r.pooled, run.counted);
        ranged = λ k l.
            omega (
              arith,
              ap (λ s. at s k) (turned r end).raised.grants,
              at-tab (length claims) (λ j. at g j + by_weight claims weights R g j) k l,
              sum_to-term (length claims) (at g) k l,
              sum_to-term (length claims) (by_weight claims weights R g) k l,
              by_weight-within claims weights R g,
              run.balance,
              r.pooled,
            );
      }

  -- the pass that is then completed is the definition's
  module _ {fresh after : List ℕ} {r : ℕ} where
    pub turned-passed : Ready pool claims weights fresh → length claims ≤ i → Completed given R all r claims noted grants after →
        Passed claims weights R g r after
    turned-passed q end done =
        completed-pass claims weights R g grants after noted given all still r b.passing.running.size (b.weighed some).total
        (turned q end).raised (turned q end).weighed done

    pub turned-within : Ready pool claims weights fresh → length claims ≤ i → Completed given R all r claims noted grants after → r ≤ R
    turned-within q end done = passed-within pool claims weights g after R r (turned-passed q end done)

    pub turned-some : Ready pool claims weights fresh → length claims ≤ i → Completed given R all r claims noted grants after → 0 < r
    turned-some q end done = passed-some pool claims weights g after R made r b.passing some (turned-passed q end done)

    pub between-next : Ready pool claims weights fresh → length claims ≤ i → Completed given R all r claims noted grants after →
        Between pool claims weights after noted (R - r) still (made + 1)
    between-next q end done =
        record {
          passing = passing-next pool claims weights g after R made r b.passing some (turned-passed q end done);
          weighed = λ rest.
              weighed-next claims weights R g grants after noted given all still r b.passing.running.short (turned q end).raised
              (turned q end).weighed done (turned-passed q end done) rest;
        }
