-- Choosing's tests are its sentences. Assumes nothing.
use Rattle.std.proofs.Common.{◌≡◌, ℕ, ◌+◌, ◌-◌, ◌*◌, ◌<◌, ◌≤◌, true, false, cond, not, ◌&&◌, eqb, leb, Some, None, Option, sym, refl, ap, ◌∙◌, inl, inr, ⊎_elim, arith}
use Rattle.std.specs.List.{range_with_len}
use Rattle.std.proofs.lemmas.Bool.{cases_Bool, eqb-false, and_parts, and_from, leb-true, le-leb, ltb-true, lt-ltb, eqb-true, eq-eqb, ne_eqb, or_cases, or_left, or_right, not-true, not_from_false, cases_lt, true≢false}
use Rattle.rules.specs.Counting.{any}
use Rattle.rules.specs.Calendar.{Pool, window, distance, allowed}
use Rattle.rules.specs.Format.{Record, Uses, Partner}
use Rattle.rules.specs.Sensing.{Meaning, Held, listened?}
use Rattle.rules.specs.Choose.{Question, Place, interval, repeats, Turn, turn, meets, blinds, blinded, Blinded, share, partner_of, taken_by_partner, takes, held_reserves, reserved_at, Reserved, level_of, above}
use Rattle.rules.specs.ChooseLaws.{FairWindow}
use Rattle.rules.proofs.Turns.{turn_is, is_turn, some_counted, counted_some}

module _ (p : Pool) (m : Meaning) (q : Question) where
  pub blinded_is : (y : ℕ) → blinded p m q y ≡ true → Blinded p m q y
  unfolding blinded
  blinded_is y t =
      let w = some_counted (blinds p m q y) (m.next - window p) (window p) t in
      let z = w.0 in
      let u = and_parts (not (listened? (m.cell z))) (any (meets p m q y z) (range_with_len 1 12)) w.3 in
      let c = some_counted (meets p m q y z) 1 12 u.1 in
      let code = c.0 in
      let v = and_parts (allowed p code) (any (λ k. turn y (interval p q) q.turns (z + k * distance p code)) (range_with_len 1 (repeats p code (m.next - z)))) c.3 in
      let k = some_counted (λ k. turn y (interval p q) q.turns (z + k * distance p code)) 1 (repeats p code (m.next - z)) v.1 in
      let high = k.2 in
      let top = c.2 in
      record {
        z = z;
        low = w.1;
        high = w.2;
        deaf = not-true _ u.0;
        code = code;
        few = (c.1, omega arith);
        allows = v.0;
        times = k.0;
        reach = (k.1, omega arith);
        turn = turn_is y (interval p q) q.turns (z + k.0 * distance p code) k.3;
      }

  pub is_blinded : (y : ℕ) → Blinded p m q y → blinded p m q y ≡ true
  unfolding blinded
  is_blinded y b =
      let z = b.z in
      let few = b.few in
      let reach = b.reach in
      counted_some (blinds p m q y) (m.next - window p) (window p) z b.low b.high
      (and_from (not (listened? (m.cell z))) (any (meets p m q y z) (range_with_len 1 12)) (not_from_false _ b.deaf)
      (counted_some (meets p m q y z) 1 12 b.code few.0 (omega arith)
      (and_from (allowed p b.code) _ b.allows
      (counted_some (λ k. turn y (interval p q) q.turns (z + k * distance p b.code)) 1 (repeats p b.code (m.next - z)) b.times reach.0 (omega arith)
      (is_turn y (interval p q) q.turns (z + b.times * distance p b.code) b.turn)))))

-- two ranges that are not empty share a sub-channel exactly when some sub-channel is in both
share_is : (a l b k : ℕ) → 1 ≤ l → 1 ≤ k → share a l b k ≡ true → (x : ℕ) × (a ≤ x) × (x < a + l) × (b ≤ x) × (x < b + k)
share_is a l b k hl hk t =
    let w = and_parts _ _ t in
    let u = ltb-true a (b + k) w.0 in
    let v = ltb-true b (a + l) w.1 in
    ⊎_elim
    (λ (h : a < b). (b, omega arith, omega arith, omega arith, omega arith))
    (λ (h : b ≤ a). (a, omega arith, omega arith, omega arith, omega arith))
    (cases_lt a b)

is_share : (a l b k x : ℕ) → a ≤ x → x < a + l → b ≤ x → x < b + k → share a l b k ≡ true
is_share a l b k x p q r s = and_from _ _ (lt-ltb a (b + k) (omega arith)) (lt-ltb b (a + l) (omega arith))

-- the partner of a record, both ways
partner_is : (r : Record) (b t : ℕ) → partner_of r b ≡ Some t → (0 < r.gap) × Partner r b t
partner_is r b t e =
    ⊎_elim
    (λ (g : eqb r.gap 0 ≡ true). let z : None ≡ Some t = ap (λ x. cond x None (cond (eqb r.again 0) (Some (b + r.gap)) (cond (eqb r.again 1 && leb r.gap b) (Some (b - r.gap)) None))) (sym g) ∙ e in let n : ◌≡◌ {A = ℕ} 0 1 = cc in absurd (omega arith))
    (λ (g : eqb r.gap 0 ≡ false).
    let some : 0 < r.gap = omega (arith, eqb-false r.gap 0 g) in
    let e' : cond (eqb r.again 0) (Some (b + r.gap)) (cond (eqb r.again 1 && leb r.gap b) (Some (b - r.gap)) None) ≡ Some t =
    ap (λ x. cond x None (cond (eqb r.again 0) (Some (b + r.gap)) (cond (eqb r.again 1 && leb r.gap b) (Some (b - r.gap)) None))) (sym g) ∙ e in
    ⊎_elim
    (λ (h : eqb r.again 0 ≡ true).
    let s : Some (b + r.gap) ≡ Some t = ap (λ x. cond x (Some (b + r.gap)) (cond (eqb r.again 1 && leb r.gap b) (Some (b - r.gap)) None)) (sym h) ∙ e' in
    let same : b + r.gap ≡ t = cc in
    (some, inl (eqb-true _ _ h, sym same)))
    (λ (h : eqb r.again 0 ≡ false).
    let e'' : cond (eqb r.again 1 && leb r.gap b) (Some (b - r.gap)) None ≡ Some t = ap (λ x. cond x (Some (b + r.gap)) (cond (eqb r.again 1 && leb r.gap b) (Some (b - r.gap)) None)) (sym h) ∙ e' in
    ⊎_elim
    (λ (f : (eqb r.again 1 && leb r.gap b) ≡ true).
    let s : Some (b - r.gap) ≡ Some t = ap (λ x. cond x (Some (b - r.gap)) None) (sym f) ∙ e'' in
    let same : b - r.gap ≡ t = cc in
    let w = and_parts _ _ f in
    let le = leb-true _ _ w.1 in
    (some, inr (eqb-true _ _ w.0, omega arith)))
    (λ (f : (eqb r.again 1 && leb r.gap b) ≡ false). let s : None ≡ Some t = ap (λ x. cond x (Some (b - r.gap)) None) (sym f) ∙ e'' in let n : ◌≡◌ {A = ℕ} 0 1 = cc in absurd (omega arith))
    (cases_Bool (eqb r.again 1 && leb r.gap b)))
    (cases_Bool (eqb r.again 0)))
    (cases_Bool (eqb r.gap 0))

is_partner : (r : Record) (b t : ℕ) → 0 < r.gap → Partner r b t → partner_of r b ≡ Some t
is_partner r b t some (inl w) =
    let g : eqb r.gap 0 ≡ false = ne_eqb _ _ (λ z. omega arith) in
    let h : eqb r.again 0 ≡ true = eq-eqb _ _ w.0 in
    rw (g, h) (ap (λ x. Some x) (sym w.1))
is_partner r b t some (inr w) =
    let g : eqb r.gap 0 ≡ false = ne_eqb _ _ (λ z. omega arith) in
    let again = w.0 in
    let e = w.1 in
    let h : eqb r.again 0 ≡ false = ne_eqb _ _ (λ z. omega arith) in
    let one : eqb r.again 1 ≡ true = eq-eqb _ _ again in
    let le : leb r.gap b ≡ true = le-leb _ _ (omega arith) in
    rw (g, h, one, le) (ap (λ x. Some x) (omega arith))

-- what a record takes of a candidate
pub record Taken (q : Question) (apart : ℕ) (c : Place) (r : Record) (a b : ℕ) : Type 0 where
  pub channel : ℕ
  pub across : (c.channel ≤ channel) × (channel < c.channel + q.length)
  pub index : ℕ
  pub turn : Turn c.at apart q.turns index
  pub uses : Uses r a b channel index

module _ (q : Question) (apart : ℕ) (c : Place) (r : Record) (a b : ℕ) (wide : 1 ≤ q.length) (long : 1 ≤ r.length) where
  by_partner : (o : Option ℕ) → partner_of r b ≡ o → taken_by_partner q apart c r o ≡ true → Taken q apart c r a b
  by_partner None e t = absurd (true≢false (sym t))
  by_partner (Some i) e t =
      let w = and_parts _ _ t in
      let s = share_is c.channel q.length r.start r.length wide long w.1 in
      let p = partner_is r b i e in
      record {
        channel = s.0;
        across = (s.1, s.2);
        index = i;
        turn = turn_is c.at apart q.turns i w.0;
        uses = inr (p.0, p.1, s.3, s.4);
      }

  takes_is : takes q apart c r a b ≡ true → Taken q apart c r a b
  takes_is t =
      ⊎_elim
      (λ own.
      let w = and_parts _ _ own in
      let s = share_is c.channel q.length a r.length wide long w.1 in
      record {
        channel = s.0;
        across = (s.1, s.2);
        index = b;
        turn = turn_is c.at apart q.turns b w.0;
        uses = inl (refl, s.3, s.4);
      })
      (λ other. by_partner (partner_of r b) refl other)
      (or_cases (turn c.at apart q.turns b && share c.channel q.length a r.length) (taken_by_partner q apart c r (partner_of r b)) t)

  used : (channel index : ℕ) → (c.channel ≤ channel) × (channel < c.channel + q.length) → Turn c.at apart q.turns index → Uses r a b channel index → takes q apart c r a b ≡ true
  used x i x-in tu (inl w) =
      or_left _ _
      (and_from _ _ (ap (turn c.at apart q.turns) (sym w.0) ∙ is_turn c.at apart q.turns i tu)
      (is_share c.channel q.length a r.length x x-in.0 x-in.1 w.1 w.2))
  used x i x-in tu (inr w) =
      or_right (turn c.at apart q.turns b && share c.channel q.length a r.length) _
      (ap (taken_by_partner q apart c r) (is_partner r b i w.0 w.1)
      ∙ and_from _ _ (is_turn c.at apart q.turns i tu) (is_share c.channel q.length r.start r.length x x-in.0 x-in.1 w.2 w.3))

  is_takes : Taken q apart c r a b → takes q apart c r a b ≡ true
  is_takes w = used w.channel w.index w.across w.turn w.uses

module _ (p : Pool) (m : Meaning) (q : Question) (raise : ℕ) (c : Place) (wide : 1 ≤ q.length) (fair : FairWindow p m) where
  by_held : (z a : ℕ) → m.next - window p ≤ z → z < m.next - window p + window p → a < p.channels → (o : Option Held) → m.held z a ≡ o → held_reserves p m q raise c z a o ≡ true → Reserved p m q raise c
  by_held z a low high below None e t = absurd (true≢false (sym t))
  by_held z a low high below (Some h) e t =
      let w = and_parts (above (level_of p q.priority h.what.priority) raise h.rsrp) (any (λ k. takes q (interval p q) c h.what a (z + k * distance p h.what.code)) (range_with_len 0 (repeats p h.what.code (m.next - z) + 1))) t in
      let k = some_counted (λ k. takes q (interval p q) c h.what a (z + k * distance p h.what.code)) 0 (repeats p h.what.code (m.next - z) + 1) w.1 in
      let f = fair z a h low high below e in
      let v = takes_is q (interval p q) c h.what a (z + k.0 * distance p h.what.code) wide f.within.some k.3 in
      let top = k.2 in
      record {
        z = z;
        low = low;
        high = high;
        resource = a;
        inside = below;
        held = h;
        there = e;
        loud = w.0;
        times = k.0;
        reach = omega arith;
        channel = v.channel;
        across = v.across;
        index = v.index;
        turn = v.turn;
        uses = v.uses;
      }

  pub reserved_is : reserved_at p m q raise c ≡ true → Reserved p m q raise c
  unfolding reserved_at
  reserved_is t =
      let w = some_counted (λ z. any (λ a. held_reserves p m q raise c z a (m.held z a)) (range_with_len 0 p.channels)) (m.next - window p) (window p) t in
      let z = w.0 in
      let u = some_counted (λ a. held_reserves p m q raise c z a (m.held z a)) 0 p.channels w.3 in
      let below = u.2 in
      by_held z u.0 w.1 w.2 (omega arith) (m.held z u.0) refl u.3

  pub is_reserved : Reserved p m q raise c → reserved_at p m q raise c ≡ true
  unfolding reserved_at
  is_reserved r =
      let z = r.z in
      let a = r.resource in
      let h = r.held in
      let f = fair z a h r.low r.high r.inside r.there in
      let below = r.inside in
      let reach = r.reach in
      counted_some (λ z. any (λ a. held_reserves p m q raise c z a (m.held z a)) (range_with_len 0 p.channels)) (m.next - window p) (window p) z r.low r.high
      (counted_some (λ a. held_reserves p m q raise c z a (m.held z a)) 0 p.channels a (omega arith) (omega arith)
      (ap (held_reserves p m q raise c z a) r.there
      ∙ and_from _ _ r.loud
      (counted_some (λ k. takes q (interval p q) c h.what a (z + k * distance p h.what.code)) 0 (repeats p h.what.code (m.next - z) + 1) r.times (omega arith) (omega arith)
      (is_takes q (interval p q) c h.what a (z + r.times * distance p h.what.code) wide f.within.some
      (record { channel = r.channel; across = r.across; index = r.index; turn = r.turn; uses = r.uses })))))
