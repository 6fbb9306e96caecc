use Rattle.std.proofs.{Common.{◌≡◌, ◌∙◌, ◌<◌, ◌≤◌, ◌++◌, ◌-◌, List, ℕ, length, map, take, drop, ap, sym, All, subst, get_or}, lemmas.Result.IfOk-weaker}
use Rattle.smk_base.specs.Rels.{Relation, rows_at}
use Rattle.smk_keys.specs.Classes.{ClassesImage}
use Rattle.smk_model.specs.{Classes.first_places, Plain.firsts}
use Rattle.smk_model.proofs.Classes.{first_keys, first_below}
use Rattle.smk_body.proofs.{Classing.rest_of, Uniting.{sub_split, first_high, right_within}}
use Rattle.smk_body.proofs.make.unions.union_rows.Goals as goal

pub lowered-requires : goal.lowered-requires
lowered-requires c =
    let K = c.args.left.now.rows ++ c.args.right.now.rows in
    let F : c.firsts-firsts.result.now ≡ first_places K = c.firsts-firsts.ensures ∙ ap (λ (m : ClassesImage). m.firsts) c.requires.classes in
    let next = subst (λ (z : List ℕ). c.count_below-count.result < length z → c.len-len.result ≤ get_or z c.count_below-count.result 0) F c.count_below-count.ensures.next in
    rw (rest_of c.firsts-firsts.result.now c.count_below-count.result, F) (first_high K c.len-len.result c.count_below-count.result next)

pub gather-requires-2-clause-within : goal.gather-requires-2-clause-within
gather-requires-2-clause-within c =
    let L = c.args.left.now.rows in
    let R = c.args.right.now.rows in
    let K = L ++ R in
    let F : c.firsts-firsts.result.now ≡ first_places K = c.firsts-firsts.ensures ∙ ap (λ (m : ClassesImage). m.firsts) c.requires.classes in
    let n = c.len-len.ensures.count in
    let next = subst (λ (z : List ℕ). c.count_below-count.result < length z → c.len-len.result ≤ get_or z c.count_below-count.result 0) F c.count_below-count.ensures.next in
    let high : All (λ i. length L ≤ i) (drop c.count_below-count.result (first_places K)) = subst (λ (k : ℕ). All (λ i. k ≤ i) (drop c.count_below-count.result (first_places K))) n (first_high K c.len-len.result c.count_below-count.result next) in
    rw (c.as_slice.ensures.value, c.in_ok-more.ensures, rest_of c.firsts-firsts.result.now c.count_below-count.result, F, n) (right_within L R (first_places K) c.count_below-count.result (first_below K) high)

pub returns-clause-rows : goal.returns-clause-rows
returns-clause-rows c =
    let L = c.args.left.now.rows in
    let R = c.args.right.now.rows in
    let K = L ++ R in
    let k = c.count_below-count.result in
    let F : c.firsts-firsts.result.now ≡ first_places K = c.firsts-firsts.ensures ∙ ap (λ (m : ClassesImage). m.firsts) c.requires.classes in
    let n = c.len-len.ensures.count in
    let next = subst (λ (z : List ℕ). k < length z → c.len-len.result ≤ get_or z k 0) F c.count_below-count.ensures.next in
    let high : All (λ i. length L ≤ i) (drop k (first_places K)) = subst (λ (m : ℕ). All (λ i. m ≤ i) (drop k (first_places K))) n (first_high K c.len-len.result k next) in
    let low : All (λ i. i < length L) (take k (first_places K)) = subst (λ (m : ℕ). All (λ i. i < m) (take k (first_places K))) n (subst (λ (z : List ℕ). All (λ i. i < c.len-len.result) (take k z)) F c.count_below-count.ensures.below) in
    IfOk-weaker c.put_behind.result (λ (r : Relation). r.rows ≡ c.in_ok-lefts.lefts.rows ++ c.in_ok-rights.rights.rows) (λ (r : Relation). r.rows ≡ firsts K)
    (λ r e. e ∙ ap (λ (r : Relation). r.rows ++ c.in_ok-rights.rights.rows) c.in_ok-lefts.ensures
    ∙ ap (λ (r : Relation). rows_at L (take k c.firsts-firsts.result.now) ++ r.rows) c.in_ok-rights.ensures
    ∙ ap (λ (z : List ℕ). rows_at L (take k c.firsts-firsts.result.now) ++ rows_at R z) (c.as_slice.ensures.value ∙ c.in_ok-more.ensures ∙ ap (map (λ i. i - c.len-len.result)) (rest_of c.firsts-firsts.result.now k) ∙ ap (λ m. map (λ i. i - m) (drop k c.firsts-firsts.result.now)) n)
    ∙ ap (λ (z : List ℕ). rows_at L (take k z) ++ rows_at R (map (λ i. i - length L) (drop k z))) F
    ∙ sym (sub_split L R (first_places K) k low high) ∙ first_keys K)
    c.put_behind.ensures.rows
