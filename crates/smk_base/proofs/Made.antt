-- Columns made, or changed, one after the other.
use Rattle.std.proofs.{Common.{◌≡◌, ◌≢◌, ℕ, ◌+◌, ◌<◌, ◌≤◌, ◌∙◌, List, [], length, get_or, set, refl, arith, inl, inr, Result, Ok, Err, IfOk}, lemmas.Bool.{cases_eq, cases_order}, lemmas.List.{length-set, get_or_read, get_or-set_same, get_or-set_other}, lemmas.List.Elements.All-from_get_or}
use Rattle.std.specs.{Borrow.MutBor, Fn.Shared}
use Rattle.smk_base.specs.{Changed.{LeavesAt, MayLeaveAt}, declared.value.Kind.Kind, declared.value.Value.Value, Images.ColumnImage, Columns.IsColumnOf, Relations.{column_in, AreMade}}

-- columns like those that were made
pub AreMade-through : (count m n : ℕ) (kind : ℕ → Kind) (cells : ℕ → List Value) (old made : List ColumnImage) → AreMade m n kind cells old
    → AreMade count (length old) (λ k. (column_in old k).kind) (λ k. (column_in old k).cells) made → AreMade count n kind cells made
AreMade-through count m n kind cells old made so now = record {
  long = now.long ∙ so.long;
  kinds = λ k h. (let low : k < length old = omega (arith, h, so.long) in now.kinds k low ∙ so.kinds k h);
  cells = λ k h. (let low : k < length old = omega (arith, h, so.long) in now.cells k low ∙ so.cells k h);
  each = now.each;
}

-- columns by what is known of each
pub AreMade-known : (count n : ℕ) (kind : ℕ → Kind) (cells : ℕ → List Value) (made : List ColumnImage) → length made ≡ n
    → ((k : ℕ) → k < n → ((column_in made k).kind ≡ kind k) × ((column_in made k).cells ≡ cells k) × IsColumnOf count (column_in made k)) → AreMade count n kind cells made
AreMade-known count n kind cells made long each = record {
  long = long;
  kinds = λ k h. (each k h).0;
  cells = λ k h. (each k h).1;
  each = All-from_get_or (IsColumnOf count) made (column_in [] 0) (λ k h. (each k (omega (arith, long))).2);
}

-- columns that were made each by itself
pub AreMade-each : {V E : Type 0} (r : Result V E) (items : V → List ColumnImage) (count n : ℕ) (kind : ℕ → Kind) (cells : ℕ → List Value) → IfOk r (λ made. length (items made) ≡ n)
    → IfOk r (λ made. (k : ℕ) (d : ColumnImage) → k < n → ((get_or (items made) k d).kind ≡ kind k) × ((get_or (items made) k d).cells ≡ cells k) × IsColumnOf count (get_or (items made) k d))
    → IfOk r (λ made. AreMade count n kind cells (items made))
AreMade-each (Err e) items count n kind cells long each = tt
AreMade-each (Ok made) items count n kind cells long each = AreMade-known count n kind cells (items made) long (λ k h. each k _ h)

module _ {F R : Type 0} (g : Shared F (ℕ × (MutBor ColumnImage × Unit {0})) (R × (MutBor ColumnImage × Unit {0}))) (f : F) where
  -- the first c columns are as calls left them that gave r, the rest are as before
  pub record IsChanged (r : R) (c : ℕ) (old now : List ColumnImage) : Type 0 where
    pub wide : length now ≡ length old
    pub rest : (k : ℕ) → c ≤ k → column_in now k ≡ column_in old k
    pub made : (k : ℕ) → k < c → LeavesAt g f k (column_in old k) r (column_in now k)

  pub shown_at : (r : R) (c : ℕ) (old now : List ColumnImage) (column : ColumnImage) → IsChanged r c old now → c < length now → column ≡ get_or now c column → column ≡ column_in old c
  shown_at r c old now column so h at = get_or_read now c column h at _ ∙ so.rest c (omega arith)

  pub IsChanged-more : (r : R) (c : ℕ) (old now : List ColumnImage) (p q : MutBor ColumnImage) → IsChanged r c old now → c < length now → p.now ≡ get_or now c p.now → g.post f (c, (p, tt)) (r, (q, tt)) → IsChanged r (c + 1) old (set now c q.now)
  IsChanged-more r c old now p q so h at met =
      let other : (k : ℕ) → k ≢ c → column_in (set now c q.now) k ≡ column_in now k = (λ k ne. get_or-set_other now c k q.now _ ne) in
      record {
        wide = length-set now c q.now ∙ so.wide;
        rest = λ k h. other k (omega arith) ∙ so.rest k (omega arith);
        made = λ k h'. elim (cases_eq k c) [
          | inl e ↦ rw (e, get_or-set_same now c q.now _ h) (record { shown = p; shows = shown_at r c old now p.now so h at; left = q; met = met; leaves = refl })
          | inr ne ↦ (let o = other k ne in rw o (so.made k (omega arith)))
        ];
      }

  -- where the call after them gives something else
  pub may_leave-more : (r r' : R) (c : ℕ) (old now : List ColumnImage) (p q : MutBor ColumnImage) → IsChanged r c old now → c < length now → p.now ≡ get_or now c p.now → g.post f (c, (p, tt)) (r', (q, tt)) → (k : ℕ) → MayLeaveAt g f k (column_in old k) (column_in (set now c q.now) k)
  may_leave-more r r' c old now p q so h at met k =
      let other : k ≢ c → column_in (set now c q.now) k ≡ column_in now k = (λ ne. get_or-set_other now c k q.now _ ne) in
      elim (cases_order k c) [
        | inl e ↦ rw (e, get_or-set_same now c q.now _ h) (inr (r', record { shown = p; shows = shown_at r c old now p.now so h at; left = q; met = met; leaves = refl }))
        | inr (inl less) ↦ (let o = other (omega arith) in rw o (inr (r, so.made k less)))
        | inr (inr above) ↦ (let o = other (omega arith) in rw o (inl (so.rest k (omega arith))))
      ]

  -- what a call leaves, by what is left of each column that it is given
  pub left_so : (P : ColumnImage → ColumnImage → Type 0) (k : ℕ) (x x' : ColumnImage) (r : R) → ((p q : MutBor ColumnImage) → g.post f (k, (p, tt)) (r, (q, tt)) → P p.now q.now) → LeavesAt g f k x r x' → P x x'
  left_so P k x x' r so left = (let here = so left.shown left.left left.met in rw (left.shows, left.leaves) at here)
