-- What views are opened as, so many at once, and the first fault among them.
use Rattle.std.proofs.{Common.{◌≡◌, ◌∙◌, ℕ, suc, zero, ◌+◌, ◌≤◌, List, [], ◌∷◌, ◌++◌, Result, Ok, Err, IfOk, IfErr, OnOk, map, ap, sym, refl, subst, arith, Option, None, inl, inr, ◌⊎◌}, lemmas.Bool.cases_lt, lemmas.List.{append_assoc, map-append}}
use Rattle.std.specs.{List.AllZip, Option.option_or}
use Rattle.smk_base.specs.Places.{upto}
use Rattle.smk_model.specs.{Opening.{ViewFault, view_fault, first_some}, Session.Workbook}
use Rattle.smk_compose.specs.declared.kept_maps.Run.{Run}
use Rattle.smk_jobs.specs.Jobs.{FirstFault}
use Rattle.smk_session.specs.{Openings.{Opens, OpensAs, faults_of, views_of}, Opened.{IsStartFault, opened}, declared.start.fault.StartFault.StartFault, declared.start.fault.StartFault.TheVariants.NoMemory, declared.start.opening.Stocked.Stocked}
use Rattle.smk_session.proofs.Starts.{first_append, first_more}

-- what a view is opened as, by the clauses on one result
pub opening_made : (book : Workbook) (stocked : Stocked) (made : Result Run StartFault) → IfOk made (λ run. run ≡ opened book stocked.view) → OnOk made (view_fault book stocked.view ≡ None)
    → IfErr made (λ e. IsStartFault e (view_fault book stocked.view)) → OpensAs book stocked made
opening_made book stocked (Ok run) is none fault = record { run = is; none = none }
opening_made book stocked (Err e) is none fault = fault

-- of several views

pub runs_are : (book : Workbook) (stocked : List Stocked) (runs : List Run) → AllZip (λ (s : Stocked) run. Opens book s.view run) stocked runs → (runs ≡ map (opened book) (views_of stocked)) × (faults_of book stocked ≡ None)
runs_are book [] [] all = (refl, refl)
runs_are book (s ∷ ss) (run ∷ runs) all =
    let rest = runs_are book ss runs all.1 in
    (ap (λ r. r ∷ runs) all.0.run ∙ ap (λ l. opened book s.view ∷ l) rest.0, rw (all.0.none) rest.1)
runs_are book _ _ all = absurd all

fault_front : (e : StartFault) (first rest : Option ViewFault) → IsStartFault e first → IsStartFault e (option_or first rest)
fault_front NoMemory first rest h = tt
fault_front _ first rest h = rw h refl

fault_is : (book : Workbook) (stocked : List Stocked) (e : StartFault) → FirstFault {T = Run} (OpensAs book) stocked e → IsStartFault e (faults_of book stocked)
fault_is book [] e first = absurd first
fault_is book (s ∷ ss) e (Ok run, opens, first) = rw (opens.none) (fault_is book ss e first)
fault_is book (s ∷ ss) e (Err f, opens, same) = fault_front e (view_fault book s.view) (faults_of book ss) (subst (λ x. IsStartFault x (view_fault book s.view)) same opens)

pub fault_among : (book : Workbook) (stocked : List Stocked) (e : StartFault) → FirstFault {T = Run} (OpensAs book) stocked e ⊎ (e ≡ NoMemory) → IsStartFault e (faults_of book stocked)
fault_among book stocked e (inl first) = fault_is book stocked e first
fault_among book stocked e (inr none) = subst (λ x. IsStartFault x (faults_of book stocked)) (sym none) tt

-- the fault of the first views is the first of all

pub fault_stays : (e : StartFault) (value : ℕ → Option ViewFault) (i n : ℕ) → i ≤ n → IsStartFault e (first_some value (upto i)) → IsStartFault e (first_some value (upto n))
fault_stays e value i zero within h = let is : i ≡ zero = omega (arith, within) in subst (λ m. IsStartFault e (first_some value (upto m))) is h
fault_stays e value i (suc n) within h = elim (cases_lt n i) [
  | inl above ↦ (let is : i ≡ suc n = omega (arith, within, above) in subst (λ m. IsStartFault e (first_some value (upto m))) is h)
  | inr below ↦ rw (first_more value n) (fault_front e (first_some value (upto n)) (value n) (fault_stays e value i n (omega (arith, below)) h))
]

-- those that wait, once those that are due are opened

views_joined : (due rest waiting : List Stocked) → due ++ rest ≡ waiting → views_of waiting ≡ views_of due ++ views_of rest
views_joined due rest waiting cut = ap views_of (sym cut) ∙ map-append (λ (s : Stocked). s.view) due rest

faults_joined : (book : Workbook) (due rest waiting : List Stocked) → due ++ rest ≡ waiting → faults_of book waiting ≡ option_or (faults_of book due) (faults_of book rest)
faults_joined book due rest waiting cut = ap (first_some (view_fault book)) (views_joined due rest waiting cut) ∙ first_append (view_fault book) (views_of due) (views_of rest)

pub opened_due : (book : Workbook) (n : ℕ) (before made after : List Run) (due rest waiting : List Stocked) → due ++ rest ≡ waiting → made ≡ map (opened book) (views_of due) → after ≡ before ++ made
    → before ++ map (opened book) (views_of waiting) ≡ map (opened book) (upto n) → after ++ map (opened book) (views_of rest) ≡ map (opened book) (upto n)
opened_due book n before made after due rest waiting cut is put are =
    ap (λ l. l ++ map (opened book) (views_of rest)) (put ∙ ap (λ l. before ++ l) is)
    ∙ append_assoc before (map (opened book) (views_of due)) (map (opened book) (views_of rest))
    ∙ ap (λ l. before ++ l) (sym (map-append (opened book) (views_of due) (views_of rest)) ∙ ap (map (opened book)) (sym (views_joined due rest waiting cut)))
    ∙ are

pub none_due : (book : Workbook) (n : ℕ) (due rest waiting : List Stocked) → due ++ rest ≡ waiting → faults_of book due ≡ None → first_some (view_fault book) (upto n) ≡ faults_of book waiting → first_some (view_fault book) (upto n) ≡ faults_of book rest
none_due book n due rest waiting cut none so_far = so_far ∙ faults_joined book due rest waiting cut ∙ ap (λ o. option_or o (faults_of book rest)) none

pub fault_due : (book : Workbook) (i n : ℕ) (e : StartFault) (due rest waiting : List Stocked) → i ≤ n → due ++ rest ≡ waiting → first_some (view_fault book) (upto i) ≡ faults_of book waiting → IsStartFault e (faults_of book due)
    → IsStartFault e (first_some (view_fault book) (upto n))
fault_due book i n e due rest waiting within cut so_far h =
    fault_stays e (view_fault book) i n within (rw (so_far, faults_joined book due rest waiting cut) (fault_front e (faults_of book due) (faults_of book rest) h))

-- and one view more

pub opened_more : (book : Workbook) (n : ℕ) (made : List Run) (before after : List Stocked) (stocked : Stocked) → after ≡ before ++ stocked ∷ [] → stocked.view ≡ n → made ++ map (opened book) (views_of before) ≡ map (opened book) (upto n)
    → made ++ map (opened book) (views_of after) ≡ map (opened book) (upto (n + 1))
opened_more book n made before after stocked pushed is are =
    let e : n + 1 ≡ suc n = omega arith in
    let last = opened book n ∷ [] in
    let views : views_of after ≡ views_of before ++ n ∷ [] = ap views_of pushed ∙ map-append (λ (s : Stocked). s.view) before (stocked ∷ []) ∙ ap (λ v. views_of before ++ v ∷ []) is in
    rw (e, views) (
    ap (λ l. made ++ l) (map-append (opened book) (views_of before) (n ∷ []))
    ∙ sym (append_assoc made (map (opened book) (views_of before)) last)
    ∙ ap (λ l. l ++ last) are
    ∙ sym (map-append (opened book) (upto n) (n ∷ [])))

pub none_more : (book : Workbook) (n : ℕ) (before after : List Stocked) (stocked : Stocked) → after ≡ before ++ stocked ∷ [] → stocked.view ≡ n → first_some (view_fault book) (upto n) ≡ faults_of book before
    → first_some (view_fault book) (upto (n + 1)) ≡ faults_of book after
none_more book n before after stocked pushed is so_far =
    let e : n + 1 ≡ suc n = omega arith in
    let views : views_of after ≡ views_of before ++ n ∷ [] = ap views_of pushed ∙ map-append (λ (s : Stocked). s.view) before (stocked ∷ []) ∙ ap (λ v. views_of before ++ v ∷ []) is in
    rw (e, views) (
    first_append (view_fault book) (upto n) (n ∷ [])
    ∙ ap (λ o. option_or o (first_some (view_fault book) (n ∷ []))) so_far
    ∙ sym (first_append (view_fault book) (views_of before) (n ∷ [])))
