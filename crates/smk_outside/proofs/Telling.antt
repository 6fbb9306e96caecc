-- What is told over two calls, one after the other.
use Rattle.std.proofs.{Common.{◌≡◌, ◌≤◌, inl, inr, ℕ, List, [], ◌∷◌, ◌++◌, Option, Some, None, IfSome, refl, sym, ap, subst, ◌∙◌, arith, append_assoc, append-nil, take, drop, take-append-drop}, lemmas.List.map-append, lemmas.List.Folds.concat-append, KnownBytes.Appends-trans}
use Rattle.std.specs.List.{concat}
use Rattle.smk_outside.specs.{declared.talk.event.Event.Event, declared.talk.event.Event.TheVariants.{Heard, End, Said}, declared.talk.ending.Ending.Ending, declared.talk.ending.Ending.TheVariants.{Ended, Unheard}, Conversing.TakesBy, Outside.{IsPrefix, Rose}, Told.{Told, said_in, Follow, Adds, AreFirst, Takes, says}, Saying.{Says, AreFront, SaysFront}}
use Rattle.std.specs.Io.KnownBytes as known

pub said_in-append : (es fs : List Event) → said_in (es ++ fs) ≡ said_in es ++ said_in fs
said_in-append [] fs = refl
said_in-append (Heard line ∷ es) fs = said_in-append es fs
said_in-append (End ∷ es) fs = said_in-append es fs
said_in-append (Said bytes ∷ es) fs = ap (λ l. bytes ++ l) (said_in-append es fs) ∙ sym (append_assoc bytes (said_in es) (said_in fs))

pub Follow-trans : (a b c : Option (List Event)) (es fs : List Event) → Follow a b es → Follow b c fs → Follow a c (es ++ fs)
Follow-trans None b c es fs p q = tt
Follow-trans (Some a) None c es fs p q = absurd p
Follow-trans (Some a) (Some b) None es fs p q = absurd q
Follow-trans (Some a) (Some b) (Some c) es fs p q = q ∙ ap (λ l. l ++ fs) p ∙ append_assoc a es fs

pub Adds-trans : (a b c : Told) (es fs : List Event) → Adds a b es → Adds b c fs → Adds a c (es ++ fs)
Adds-trans a b c es fs p q = (
  Follow-trans a.history b.history c.history es fs p.0 q.0,
  subst (known.Appends a.said c.said) (sym (said_in-append es fs)) (Appends-trans a.said b.said c.said (said_in es) (said_in fs) p.1 q.1),
)

pub AreFirst-trans : (a b c : Option (List (List ℕ))) (xs ys : List (List ℕ)) → AreFirst a b xs → AreFirst b c ys → AreFirst a c (xs ++ ys)
AreFirst-trans None b c xs ys p q = tt
AreFirst-trans (Some a) None c xs ys p q = absurd p
AreFirst-trans (Some a) (Some b) None xs ys p q = absurd q
AreFirst-trans (Some a) (Some b) (Some c) xs ys p q = p ∙ ap (λ l. xs ++ l) q ∙ sym (append_assoc xs ys c)

pub Takes-trans : (a b c : Told) (xs ys : List (List ℕ)) → Takes a b xs → Takes b c ys → Takes a c (xs ++ ys)
Takes-trans a b c xs ys p q = AreFirst-trans a.left b.left c.left xs ys p q

all_taken : (a b : Option (List (List ℕ))) (xs ys : List (List ℕ)) → AreFirst a b xs → IfSome b (λ left. left ≡ ys) → IfSome a (λ left. left ≡ xs ++ ys)
all_taken None b xs ys p q = tt
all_taken (Some a) None xs ys p q = absurd p
all_taken (Some a) (Some b) xs ys p q = p ∙ ap (λ l. xs ++ l) q

first_taken : (a b : Option (List (List ℕ))) (xs ys : List (List ℕ)) → AreFirst a b xs
    → IfSome b (λ left. (rest : List (List ℕ)) × (left ≡ ys ++ rest)) → IfSome a (λ left. (rest : List (List ℕ)) × (left ≡ (xs ++ ys) ++ rest))
first_taken None b xs ys p q = tt
first_taken (Some a) None xs ys p q = absurd p
first_taken (Some a) (Some b) xs ys p (rest, is) = (rest, p ∙ ap (λ l. xs ++ l) is ∙ sym (append_assoc xs ys rest))

pub TakesBy-trans : (ending : Ending) (a b c : Told) (xs ys : List (List ℕ)) → Takes a b xs → TakesBy ending b c ys → TakesBy ending a c (xs ++ ys)
TakesBy-trans Ended a b c xs ys p q = all_taken a.left b.left xs ys p q
TakesBy-trans Unheard a b c xs ys p q = first_taken a.left b.left xs ys p q
TakesBy-trans _ a b c xs ys p q = Takes-trans a b c xs ys p q

none_taken : (a : Option (List (List ℕ))) → IfSome a (λ left. (rest : List (List ℕ)) × (left ≡ rest))
none_taken None = tt
none_taken (Some left) = (left, refl)

-- no line was heard
pub TakesBy-unheard : (a b : Told) → TakesBy Unheard a b []
TakesBy-unheard a b = none_taken a.left

-- the first bytes are a front
pub take_front : (n : ℕ) (bytes : List ℕ) → IsPrefix (take n bytes) bytes
take_front n bytes = (drop n bytes, sym (take-append-drop n bytes))

-- what some texts begin with, more texts begin with too
pub front_more : (xs ys : List (List ℕ)) (es : List Event) → AreFront xs es → AreFront (xs ++ ys) es
front_more xs ys es (parts, is, (rest, joined)) =
    (parts, is, (rest ++ concat ys, concat-append xs ys ∙ ap (λ l. l ++ concat ys) joined ∙ append_assoc (concat parts) rest (concat ys)))

-- and so is what was said before it together with it
pub front_after : (xs ys : List (List ℕ)) (es : List Event) → AreFront ys es → AreFront (xs ++ ys) (says xs ++ es)
front_after xs ys es (parts, is, (rest, joined)) = (
  xs ++ parts,
  ap (λ l. says xs ++ l) is ∙ sym (map-append Said xs parts),
  (rest, concat-append xs ys ∙ ap (λ l. concat xs ++ l) joined ∙ sym (append_assoc (concat xs) (concat parts) rest) ∙ ap (λ l. l ++ rest) (sym (concat-append xs parts))),
)

pub Says-trans : (a b c : Told) (xs ys : List (List ℕ)) → Says a b xs → Says b c ys → Says a c (xs ++ ys)
Says-trans a b c xs ys p q =
    (subst (Adds a c) (sym (map-append Said xs ys)) (Adds-trans a b c (says xs) (says ys) p.0 q.0), Takes-trans a b c [] [] p.1 q.1)

pub SaysFront-more : (a b : Told) (xs ys : List (List ℕ)) → SaysFront a b xs → SaysFront a b (xs ++ ys)
SaysFront-more a b xs ys (es, front, added, taken) = (es, front_more xs ys es front, added, taken)

pub SaysFront-after : (a b c : Told) (xs ys : List (List ℕ)) → Says a b xs → SaysFront b c ys → SaysFront a c (xs ++ ys)
SaysFront-after a b c xs ys p (es, front, added, taken) =
    (says xs ++ es, front_after xs ys es front, Adds-trans a b c _ _ p.0 added, Takes-trans a b c [] [] p.1 taken)

-- a count that has risen in the second of two calls, and in the first
pub Rose-after : (a b c : ℕ) → a ≤ b → Rose b c → Rose a c
Rose-after a b c le (inl rose) = inl (omega arith)
Rose-after a b c le (inr full) = inr full

-- what was said is a front
pub SaysFront-part : (a b : Told) (part bytes : List ℕ) → IsPrefix part bytes → Says a b (part ∷ []) → SaysFront a b (bytes ∷ [])
SaysFront-part a b part bytes (rest, is) p =
    (says (part ∷ []), (part ∷ [], refl, (rest, append-nil bytes ∙ is ∙ ap (λ l. l ++ rest) (sym (append-nil part)))), p.0, p.1)
