-- Results of jobs, in order.
use Rattle.std.proofs.{Common.{◌≡◌, ◌∙◌, ℕ, suc, ◌+◌, ◌<◌, List, [], ◌∷◌, ◌++◌, Result, Ok, Err, length, take, drop, get_or, ap, sym, refl, subst, arith, drop-cons, take-append-drop, length-append, IfOk, IfErr, ◌⊎◌, inl, inr, All}, lemmas.List.{take_more, append_assoc, get_or_append_left, get_or-append-add}, lemmas.Slice.Zip.all_zipped_more}
use Rattle.std.specs.List.{AllZip}
use Rattle.smk_jobs.specs.Jobs.{FirstFault}

-- the values of one part behind those of another
pub zip_joined : {A B : Type 0} (R : A → B → Type 0) (xs : List A) (ys : List B) (vs : List A) (ws : List B) → AllZip R xs ys → AllZip R vs ws → AllZip R (xs ++ vs) (ys ++ ws)
zip_joined R [] [] vs ws front back = back
zip_joined R (x ∷ xs) (y ∷ ys) vs ws front back = (front.0, zip_joined R xs ys vs ws front.1 back)
zip_joined R _ _ vs ws front back = absurd front

-- the first fault of a part behind jobs that gave values
pub fault_behind : {J T E : Type 0} (Gives : J → Result T E → Type 0) (xs : List J) (made : List T) (rest : List J) (e : E) → AllZip (λ job one. Gives job (Ok one)) xs made → FirstFault Gives rest e → FirstFault Gives (xs ++ rest) e
fault_behind Gives [] [] rest e done first = first
fault_behind Gives (x ∷ xs) (t ∷ ts) rest e done first = (Ok t, done.0, fault_behind Gives xs ts rest e done.1 first)
fault_behind Gives _ _ rest e done first = absurd done

-- a fault in a front part is the first of the whole
pub fault_before : {J T E : Type 0} (Gives : J → Result T E → Type 0) (xs rest : List J) (e : E) → FirstFault Gives xs e → FirstFault Gives (xs ++ rest) e
fault_before Gives [] rest e first = absurd first
fault_before Gives (x ∷ xs) rest e (Ok t, gives, first) = (Ok t, gives, fault_before Gives xs rest e first)
fault_before Gives (x ∷ xs) rest e (Err f, gives, is) = (Err f, gives, is)

-- one job more, which gave a value
pub value_more : {A B : Type 0} (R : A → B → Type 0) (xs : List A) (n : ℕ) (x : A) (ys : List B) (y : B) → n < length xs → x ≡ get_or xs n x → AllZip R (take n xs) ys → R x y → AllZip R (take (n + 1) xs) (ys ++ y ∷ [])
value_more R xs n x ys y low at done one = rw (take_more xs n x low, ← at) (all_zipped_more R (take n xs) ys x y done one)

-- one job more, which gave a fault
pub fault_here : {J T E : Type 0} (Gives : J → Result T E → Type 0) (jobs : List J) (n : ℕ) (job : J) (made : List T) (e : E) → n < length jobs → job ≡ get_or jobs n job → AllZip (λ job one. Gives job (Ok one)) (take n jobs) made → Gives job (Err e)
    → FirstFault Gives jobs e
fault_here Gives jobs n job made e low at done gives =
    let whole : take n jobs ++ job ∷ drop (suc n) jobs ≡ jobs = ap (λ q. take n jobs ++ q ∷ drop (suc n) jobs) at ∙ ap (λ l. take n jobs ++ l) (sym (drop-cons jobs n job low)) ∙ take-append-drop n jobs in
    subst (λ l. FirstFault Gives l e) whole (fault_behind Gives (take n jobs) made (job ∷ drop (suc n) jobs) e done (Err e, gives, refl))

-- in the form in which a list of results is told by its places
pub zip_of : {A B : Type 0} (R : A → B → Type 0) (xs : List A) (ys : List B) → length ys ≡ length xs → ((i : ℕ) (d : A) (e : B) → i < length xs → R (get_or xs i d) (get_or ys i e)) → AllZip R xs ys
zip_of R [] [] long each = tt
zip_of R [] (y ∷ ys) long each = absurd (omega (arith, long))
zip_of R (x ∷ xs) [] long each = absurd (omega (arith, long))
zip_of R (x ∷ xs) (y ∷ ys) long each = (each 0 x y (omega arith), zip_of R xs ys (omega (arith, long)) (λ i d e low. each (suc i) d e (omega (arith, low))))

-- results that are all values, and those values

pub values_of : {J T E : Type 0} (Gives : J → Result T E → Type 0) (jobs : List J) (results : List (Result T E)) (made : List T) → AllZip Gives jobs results → AllZip (λ r one. r ≡ Ok one) results made → AllZip (λ job one. Gives job (Ok one)) jobs made
values_of Gives [] [] made given are = are
values_of Gives (j ∷ js) (r ∷ rs) [] given are = absurd are
values_of Gives (j ∷ js) (r ∷ rs) (t ∷ ts) given are = (subst (Gives j) are.0 given.0, values_of Gives js rs ts given.1 are.1)
values_of Gives _ _ made given are = absurd given

-- the first fault among results is that of their jobs

pub fault_of : {J T E : Type 0} (Gives : J → Result T E → Type 0) (jobs : List J) (results : List (Result T E)) (e : E) → AllZip Gives jobs results → FirstFault {T = T} (λ r s. r ≡ s) results e → FirstFault Gives jobs e
fault_of Gives [] (r ∷ rs) e given first = absurd given
fault_of Gives (j ∷ js) (r ∷ rs) e given (Ok t, is, first) = (Ok t, subst (Gives j) is given.0, fault_of Gives js rs e given.1 first)
fault_of Gives (j ∷ js) (r ∷ rs) e given (Err f, is, same) = (Err f, subst (Gives j) is given.0, same)
fault_of Gives _ [] e given first = absurd first

-- the places of a group and of the jobs after it, in the list of both

pub front_at : {A : Type 0} (xs ys zs : List A) (k : ℕ) (d : A) → xs ++ ys ≡ zs → k < length xs → (get_or xs k d ≡ get_or zs k d) × (k < length zs)
front_at xs ys zs k d is low = (sym (get_or_append_left xs ys d k low) ∙ ap (λ l. get_or l k d) is, omega (arith, low, length-append xs ys, ap (λ l. length l) is))

pub back_at : {A : Type 0} (xs ys zs : List A) (k : ℕ) (d : A) → xs ++ ys ≡ zs → k < length ys → (get_or ys k d ≡ get_or zs (length xs + k) d) × (length xs + k < length zs)
back_at xs ys zs k d is low = (sym (get_or-append-add xs ys k d) ∙ ap (λ l. get_or l (length xs + k) d) is, omega (arith, low, length-append xs ys, ap (λ l. length l) is))

pub all_front : {A : Type 0} (P : A → Type 0) (xs ys zs : List A) → xs ++ ys ≡ zs → All P zs → All P xs
all_front P xs ys zs is all = λ k d low. let at = front_at xs ys zs k d is low in rw at.0 (all k d at.1)

pub all_back : {A : Type 0} (P : A → Type 0) (xs ys zs : List A) → xs ++ ys ≡ zs → All P zs → All P ys
all_back P xs ys zs is all = λ k d low. let at = back_at xs ys zs k d is low in rw at.0 (all (length xs + k) d at.1)

-- the values of a group, or its first fault, by its results

pub all_given : {J T E : Type 0} (Gives : J → Result T E → Type 0) (group : List J) (results : List (Result T E)) (before after : List T) (r : Result (Unit {0}) E) → AllZip Gives group results
    → IfOk r (λ _. (ones : List T) × AllZip (λ s one. s ≡ Ok one) results ones × (after ≡ before ++ ones)) → IfOk r (λ _. (ones : List T) × AllZip (λ job one. Gives job (Ok one)) group ones × (after ≡ before ++ ones))
all_given Gives group results before after (Ok u) given (ones, are, put) = (ones, values_of Gives group results ones given are, put)
all_given Gives group results before after (Err e) given told = tt

pub first_given : {J T E : Type 0} (Gives : J → Result T E → Type 0) (Want : E → Type 0) (group : List J) (results : List (Result T E)) (r : Result (Unit {0}) E) → AllZip Gives group results → IfErr r (λ e. FirstFault {T = T} (λ s t. s ≡ t) results e ⊎ Want e)
    → IfErr r (λ e. FirstFault Gives group e ⊎ Want e)
first_given Gives Want group results (Ok u) given told = tt
first_given Gives Want group results (Err e) given (inl first) = inl (fault_of Gives group results e given first)
first_given Gives Want group results (Err e) given (inr want) = inr want

-- one group more, all of whose jobs gave values
pub group_more : {A B : Type 0} (R : A → B → Type 0) (jobs rest later group : List A) (made after ones : List B) → (before : List A) × (before ++ rest ≡ jobs) × AllZip R before made → group ++ later ≡ rest → AllZip R group ones → after ≡ made ++ ones
    → (before : List A) × (before ++ later ≡ jobs) × AllZip R before after
group_more R jobs rest later group made after ones (before, is, done) cut one put =
    (before ++ group, append_assoc before group later ∙ ap (λ l. before ++ l) cut ∙ is, subst (AllZip R (before ++ group)) (sym put) (zip_joined R before made group ones done one))

-- the first fault of a group behind groups all of whose jobs gave values
pub group_fault : {J T E : Type 0} (Gives : J → Result T E → Type 0) (jobs rest later group : List J) (made : List T) (e : E) → (before : List J) × (before ++ rest ≡ jobs) × AllZip (λ job one. Gives job (Ok one)) before made → group ++ later ≡ rest
    → FirstFault Gives group e → FirstFault Gives jobs e
group_fault Gives jobs rest later group made e (before, is, done) cut first =
    subst (λ l. FirstFault Gives l e) is (fault_behind Gives before made rest e done (subst (λ l. FirstFault Gives l e) cut (fault_before Gives group later e first)))

pub group_told : {J T E : Type 0} (Gives : J → Result T E → Type 0) (Want : E → Type 0) (jobs rest later group : List J) (made : List T) (e : E) → (before : List J) × (before ++ rest ≡ jobs) × AllZip (λ job one. Gives job (Ok one)) before made → group ++ later ≡ rest
    → FirstFault Gives group e ⊎ Want e → FirstFault Gives jobs e ⊎ Want e
group_told Gives Want jobs rest later group made e done cut (inl first) = inl (group_fault Gives jobs rest later group made e done cut first)
group_told Gives Want jobs rest later group made e done cut (inr want) = inr want
