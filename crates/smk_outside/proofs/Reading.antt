-- The first line of the bytes of a reader, piece by piece.
use Rattle.std.proofs.{Common.{◌≡◌, ◌≢◌, ◌≤◌, ◌<◌, ◌+◌, ◌-◌, ◌⊎◌, inl, inr, ℕ, Bool, true, false, eqb, cond, nat_lt, ◌&&◌, List, [], ◌∷◌, ◌++◌, All, Option, None, Some, IfSome, Result, Ok, Err, length, take, get_or, replicate, IfOk, refl, sym, ap, subst, ◌∙◌, arith, append_assoc, append-nil, length-append, length-take-le, get_or-take, eq-eqb, eqb-true}, lemmas.List.Elements.{All-nil, All-more, All-push}, lemmas.List.{get_or_push, length-replicate}, Math.Seq.take-append_seam}
use borrow.Author.Tests.{ltb-true, lt-ltb}
use Rattle.std.specs.{Io.StartsWith, Io.KnownBytes.{Keeps, Consumes}, Io.BufRead.{take_through, drop_through, strip_last, ends_with_byte, DropsConsumable, DropsThrough}, Option.option_map}
use Rattle.std.proofs.{KnownBytes.Appends-nil, BufReadLemmas.{take_through-append, drop_through-append, take_through-nil, Consumes_shown, Consumes_through, zero_unless_positive}, Transfers.StopsAt-take}
use Rattle.smk_outside.specs.{declared.talk.heard.Heard.Heard, declared.talk.heard.Heard.TheVariants.{Line, Long, End}, declared.talk.heard.TalkFault.TalkFault, declared.talk.heard.TalkFault.TheVariants.{Failed, NoMemory}, Told.{Told, AreFirst, says}, Saying.SaysFront, Hearing.Gives, StreamSink.AppendsKnownPart, StreamTalk.{without_end, first_line, later_lines, lines_after, lines_of, IsShort, HearsBytes, IsHeard, TakesFront, AreTaken, SomeTaken}}
use Rattle.std.specs.Io.KnownBytes as known

-- no byte is an LF
abbrev pub HasNoEnd : List ℕ → Type 0
HasNoEnd bytes = All (λ x. x ≢ 10) bytes

-- what was shown and then taken: so many bytes, of which none but the last is an LF
pub part_taken : (a b c : Option (List ℕ)) (buffered : Option ℕ) (shown : List ℕ) (n : ℕ) (done : Bool)
    → n ≤ length shown → (0 < length shown → 0 < n) → HasNoEnd (take (n - 1) shown)
    → IfSome a (λ xs. StartsWith xs shown) → IfSome a (λ xs. length shown ≡ 0 → xs ≡ []) → Keeps a b
    → IfSome a (λ _. IfSome buffered (λ k. length shown ≤ k)) → DropsConsumable b c buffered n
    → ((n ≡ 0) × (done ≡ true)) ⊎ ((0 < n) × (done ≡ eqb (get_or shown (n - 1) 0) 10))
    → AreTaken a c (take n shown) (Ok done)
part_taken a b c buffered shown n true within some before front end kept fits drops is =
    let moved = Consumes_shown a b c buffered shown n within front end kept fits drops in
    let long = length-take-le n shown within in (
      moved.0,
      StopsAt-take shown 10 n within before,
      λ more. elim is [
        | inl none ↦ absurd (let zero = none.0 in omega arith)
        | inr last ↦ ap (λ k. get_or (take n shown) (k - 1) 0) long ∙ get_or-take n shown (n - 1) 0 (let lt = last.0 in omega arith) ∙ eqb-true _ _ (sym last.1)
      ],
      λ none. moved.1 (zero_unless_positive _ _ some (sym long ∙ none)),
    )
part_taken a b c buffered shown n false within some before front end kept fits drops is =
    let moved = Consumes_shown a b c buffered shown n within front end kept fits drops in (
      moved.0,
      elim is [
        | inl none ↦ absurd (let wrong = none.1 in cc)
        | inr last ↦ (let lt = last.0 in let same : (n - 1) + 1 ≡ n = omega arith in
            subst (λ k. HasNoEnd (take k shown)) same (All-more (λ x. x ≢ 10) shown (n - 1) 0 (omega arith) before (λ e. let hit = eq-eqb _ _ e in let miss = last.1 in cc)))
      ],
    )

pub taken_whole : (a b c : Option (List ℕ)) (old new : List ℕ) (most : ℕ) → HasNoEnd old → Consumes a b old → SomeTaken b c old new (Ok true) → TakesFront most a c new (Ok true)
taken_whole None b c old new most fits taken (part, is, (read, stops, ends, end)) = tt
taken_whole (Some x) b c old new most fits taken (part, is, (read, stops, ends, end)) =
    let both = Consumes_through 10 (Some x) b c old part taken fits read stops ends end in (is ∙ both.0, both.1)

-- a line that was taken whole
pub heard_whole : (limit most : ℕ) (a c : Option (List ℕ)) (line : List ℕ) (heard : Heard) → TakesFront most a c line (Ok true) → IsHeard limit line heard → HearsBytes limit a c (Ok heard)
heard_whole limit most None c line heard taken is = tt
heard_whole limit most (Some x) c line (Line text) taken is =
    (is.1 ∙ ap without_end taken.0, taken.1, λ none. is.0 (taken.0 ∙ ap (take_through 10) none))
heard_whole limit most (Some x) c line Long taken is =
    (subst (λ l. limit < length (without_end l)) taken.0 is.1, taken.1, λ none. is.0 (taken.0 ∙ ap (take_through 10) none))
heard_whole limit most (Some x) c line End taken is =
    let none = take_through-nil 10 x (ap length (sym taken.0 ∙ is)) in (none, taken.1 ∙ ap (λ l. Some (later_lines l)) none)

-- a line that goes on past its front is skipped
pub skipped : (a b c : Option (List ℕ)) (front : List ℕ) → HasNoEnd front → Consumes a b front → DropsThrough b c 10 → IfSome a (λ xs. c ≡ Some (later_lines xs))
skipped None b c front fits taken rest = tt
skipped (Some x) None c front fits taken rest = absurd taken
skipped (Some x) (Some y) c front fits taken rest = rest ∙ ap Some (sym (ap (drop_through 10) taken ∙ drop_through-append 10 front y fits))

pub heard_without_memory : (limit : ℕ) (a b c : Option (List ℕ)) (front : List ℕ) → TakesFront limit a b front (Err NoMemory) → DropsThrough b c 10 → HearsBytes limit a c (Err NoMemory)
heard_without_memory limit None b c front taken rest = tt
heard_without_memory limit (Some x) b c front taken rest = (skipped (Some x) b c front taken.0 taken.1 rest, taken.2)

strip_last-length : (byte : ℕ) (xs : List ℕ) → length xs ≤ length (strip_last byte xs) + 1
strip_last-length byte xs = at (ends_with_byte byte xs)
  where
    at : (b : Bool) → length xs ≤ length (cond b (take (length xs - 1) xs) xs) + 1
    at true = let long = length-take-le (length xs - 1) xs (omega arith) in omega arith
    at false = omega arith

-- without an LF nothing but a CR goes
no_end_kept : (xs : List ℕ) → HasNoEnd xs → strip_last 10 xs ≡ xs
no_end_kept xs fits =
    at (nat_lt 0 (length xs)) (eqb (get_or xs (length xs - 1) 0) 10) (λ some hit. fits (length xs - 1) 0 (let more = ltb-true _ _ some in omega arith) (eqb-true _ _ hit))
  where
    at : (a b : Bool) → (a ≡ true → b ≡ true → ⊥) → cond (a && b) (take (length xs - 1) xs) xs ≡ xs
    at true true h = absurd (h refl refl)
    at true false h = refl
    at false b h = refl

-- a front that is longer than a line within the limit
pub long_line : (limit : ℕ) (front rest : List ℕ) → HasNoEnd front → limit + 2 ≤ length front → limit < length (first_line (front ++ rest))
long_line limit front rest fits long =
    subst (λ l. limit < length (without_end l)) (sym (take_through-append 10 front rest fits)) (at (take_through 10 rest))
  where
    at : (t : List ℕ) → limit < length (without_end (front ++ t))
    at [] =
        let same : strip_last 10 (front ++ []) ≡ front = ap (strip_last 10) (append-nil front) ∙ no_end_kept front fits in
        let cut = strip_last-length 13 (strip_last 10 (front ++ [])) in
        let kept = ap length same in
        omega arith
    at (x ∷ t) =
        let first = strip_last-length 10 (front ++ x ∷ t) in
        let second = strip_last-length 13 (strip_last 10 (front ++ x ∷ t)) in
        let all = length-append front (x ∷ t) in
        omega arith

pub heard_long : (limit most : ℕ) (a b c : Option (List ℕ)) (front : List ℕ) → limit + 2 ≤ length front → TakesFront most a b front (Ok false) → DropsThrough b c 10 → HearsBytes limit a c (Ok Long)
heard_long limit most None b c front long taken rest = tt
heard_long limit most (Some x) None c front long taken rest = absurd taken.2
heard_long limit most (Some x) (Some y) c front long taken rest = (
  subst (λ l. limit < length (first_line l)) (sym taken.2) (long_line limit front y taken.0 long),
  skipped (Some x) (Some y) c front taken.0 taken.2 rest,
  λ none. absurd (let size = ap length (sym taken.2 ∙ none) in let parts = length-append front y in omega arith),
)

-- ---- the lines of bytes, one after the other

strip_push : (xs : List ℕ) → strip_last 10 (xs ++ 10 ∷ []) ≡ xs
strip_push xs =
    at (nat_lt 0 (length (xs ++ 10 ∷ []))) (eqb (get_or (xs ++ 10 ∷ []) (length (xs ++ 10 ∷ []) - 1) 0) 10)
    (lt-ltb _ _ (omega (arith, length-append xs (10 ∷ [])))) (eq-eqb _ _ (get_or_push xs 10 0 (length (xs ++ 10 ∷ []) - 1) (omega (arith, length-append xs (10 ∷ [])))))
  where
    at : (a b : Bool) → a ≡ true → b ≡ true → cond (a && b) (take (length (xs ++ 10 ∷ []) - 1) (xs ++ 10 ∷ [])) (xs ++ 10 ∷ []) ≡ xs
    at true true p q =
        let less : length (xs ++ 10 ∷ []) - 1 ≡ length xs = omega (arith, length-append xs (10 ∷ [])) in
        ap (λ k. take k (xs ++ 10 ∷ [])) less ∙ take-append_seam xs (10 ∷ [])
    at true false p q = absurd (let wrong = q in cc)
    at false b p q = absurd (let wrong = p in cc)

-- the first line, and then the lines behind it
lines_next : (passed bytes : List ℕ) → HasNoEnd passed → (passed ++ bytes ≡ [] → ⊥) → lines_after passed bytes ≡ without_end (passed ++ take_through 10 bytes) ∷ lines_of (later_lines bytes)
lines_next [] [] fits some = absurd (some refl)
lines_next (p ∷ ps) [] fits some =
    ap (λ l. strip_last 13 l ∷ []) (sym (ap (strip_last 10) (append-nil (p ∷ ps)) ∙ no_end_kept (p ∷ ps) fits))
lines_next passed (b ∷ bs) fits some =
    at (eqb b 10) refl (λ fits_more. lines_next (passed ++ b ∷ []) bs fits_more
    (λ none. absurd (let size = ap length none in let parts = length-append (passed ++ b ∷ []) bs in let first = length-append passed (b ∷ []) in omega arith)))
  where
    at : (e : Bool) → eqb b 10 ≡ e
        → (HasNoEnd (passed ++ b ∷ []) → lines_after (passed ++ b ∷ []) bs ≡ without_end ((passed ++ b ∷ []) ++ take_through 10 bs) ∷ lines_of (later_lines bs))
        → cond e (strip_last 13 passed ∷ lines_after [] bs) (lines_after (passed ++ b ∷ []) bs)
        ≡ without_end (passed ++ cond e (b ∷ []) (b ∷ take_through 10 bs)) ∷ lines_of (cond e bs (drop_through 10 bs))
    at true hit next =
        let same = eqb-true b 10 hit in
        ap (λ l. strip_last 13 l ∷ lines_of bs) (sym (ap (λ k. strip_last 10 (passed ++ k ∷ [])) same ∙ strip_push passed))
    at false miss next =
        next (All-push (λ x. x ≢ 10) passed b fits (λ same. let hit = eq-eqb b 10 same in cc))
        ∙ ap (λ l. without_end l ∷ lines_of (drop_through 10 bs)) (append_assoc passed (b ∷ []) (take_through 10 bs))

pub lines_first : (bytes : List ℕ) → (bytes ≢ []) → lines_of bytes ≡ first_line bytes ∷ lines_of (later_lines bytes)
lines_first bytes some = lines_next [] bytes (All-nil (λ x. x ≢ 10)) some

line_taken : (before after : Option (List ℕ)) (line : List ℕ) → IfSome before (λ bytes. (line ≡ first_line bytes) × (after ≡ Some (later_lines bytes)) × (bytes ≢ []))
    → AreFirst (option_map lines_of before) (option_map lines_of after) (line ∷ [])
line_taken None after line is = tt
line_taken (Some bytes) after line (is, rest, some) =
    subst (λ a. AreFirst (Some (lines_of bytes)) (option_map lines_of a) (line ∷ [])) (sym rest) (lines_first bytes some ∙ ap (λ l. l ∷ lines_of (later_lines bytes)) (sym is))

-- what is told of a reader and a writer
abbrev told_of : Option (List ℕ) → Option (List ℕ) → Told
told_of read said = record { history = None; left = option_map lines_of read; said = said }

long_line_of : (limit : ℕ) → (line : List ℕ) × (limit < length line)
long_line_of limit = (replicate (limit + 1) 0, omega (arith, length-replicate {A = ℕ} (limit + 1) 0))

pub gives_from : (limit : ℕ) (before after said : Option (List ℕ)) (result : Result Heard TalkFault) → IfOk result (IsShort limit)
    → HearsBytes limit before after result → Gives limit (told_of before said) (told_of after said) result
gives_from limit before after said (Ok (Line text)) short heard = (((tt, Appends-nil said), line_taken before after text.items heard), short)
gives_from limit None after said (Ok Long) short heard = let (line, long) = long_line_of limit in (line, ((tt, Appends-nil said), tt), long)
gives_from limit (Some bytes) after said (Ok Long) short (long, rest, some) =
    (first_line bytes, ((tt, Appends-nil said), line_taken (Some bytes) after (first_line bytes) (refl, rest, some)), long)
gives_from limit None after said (Ok End) short heard = ((tt, Appends-nil said), tt)
gives_from limit (Some bytes) after said (Ok End) short (none, rest) = ((tt, Appends-nil said), ap lines_of none)
gives_from limit None after said (Err NoMemory) short heard = ([], ((tt, Appends-nil said), tt))
gives_from limit (Some bytes) after said (Err NoMemory) short (rest, some) =
    (first_line bytes, ((tt, Appends-nil said), line_taken (Some bytes) after (first_line bytes) (refl, rest, some)))
gives_from limit before after said (Err Failed) short heard = (tt, Appends-nil said)

pub none_taken : (left : Option (List (List ℕ))) → AreFirst left left []
none_taken None = tt
none_taken (Some left) = refl

-- and what is told of a front that was written
pub front_from : (read before after : Option (List ℕ)) (bytes : List ℕ) → AppendsKnownPart before after bytes → SaysFront (told_of read before) (told_of read after) (bytes ∷ [])
front_from read before after bytes (part, (rest, is), appended) = (
  says (part ∷ []),
  (part ∷ [], refl, (rest, append-nil bytes ∙ is ∙ ap (λ l. l ++ rest) (sym (append-nil part)))),
  (tt, subst (known.Appends before after) (sym (append-nil part)) appended),
  none_taken (option_map lines_of read),
)
