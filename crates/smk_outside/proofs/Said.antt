-- What a conversation says, put together.
use Rattle.std.proofs.{Common.{◌≡◌, ℕ, List, [], ◌∷◌, ◌++◌, refl, sym, ap, ◌∙◌, subst, append_assoc, append-nil}, lemmas.List.Folds.concat-append}
use Rattle.std.specs.List.{concat}
use Rattle.std.specs.Io.KnownBytes as known
use Rattle.smk_outside.specs.{declared.talk.event.Event.Event, declared.talk.event.Event.TheVariants.{Heard, End}, declared.talk.ending.Ending.Ending, declared.talk.ending.Ending.TheVariants.{Ended, Unheard, Unsaid, Outlasted}, Outside.IsPrefix, Told.{Told, said_in, says}, Conversing.{Rules, texts_of, Talks, Conversation, AnyFits, SaysAll}}

pub said_in-says : (texts : List (List ℕ)) (events : List Event) → said_in (says texts ++ events) ≡ concat texts ++ said_in events
said_in-says [] events = refl
said_in-says (text ∷ texts) events = ap (λ l. text ++ l) (said_in-says texts events) ∙ sym (append_assoc text (concat texts) (said_in events))

pub said_in-all : (texts : List (List ℕ)) → said_in (says texts) ≡ concat (texts ++ [])
said_in-all [] = refl
said_in-all (text ∷ texts) = ap (λ l. text ++ l) (said_in-all texts)

module _ {S T : Type 0} (rules : Rules S T) (Fits : S → T → Type 0) where
  pub said_whole : (state : S) (saying : List (List ℕ)) (ending : Ending) (turns : List T) (events : List Event)
      → (ending ≡ Unsaid → ⊥) → Talks rules Fits state saying ending turns events → said_in events ≡ concat (saying ++ texts_of rules state turns)
  said_whole state saying Ended [] events whole talks = ap said_in talks ∙ said_in-says saying (End ∷ []) ∙ sym (concat-append saying [])
  said_whole state saying Unheard [] events whole talks = ap said_in talks ∙ said_in-all saying
  said_whole state saying Unsaid [] events whole talks = absurd (whole refl)
  said_whole state saying Outlasted [] events whole talks = ap said_in talks ∙ said_in-all saying
  said_whole state saying ending (turn ∷ turns) events whole (more, fits, is, talks) =
      ap said_in is ∙ said_in-says saying (Heard (rules.line turn) ∷ more)
      ∙ ap (λ l. concat saying ++ l) (said_whole (rules.next state turn) (rules.texts state turn) ending turns more whole talks)
      ∙ sym (concat-append saying (texts_of rules state (turn ∷ turns)))

  pub said_front : (state : S) (saying : List (List ℕ)) (turns : List T) (events : List Event)
      → Talks rules Fits state saying Unsaid turns events → IsPrefix (said_in events) (concat (saying ++ texts_of rules state turns))
  said_front state saying [] events (parts, is, (rest, joined)) =
      (rest, ap concat (append-nil saying) ∙ joined ∙ ap (λ l. l ++ rest) (ap concat (sym (append-nil parts)) ∙ sym (said_in-all parts) ∙ sym (ap said_in is)))
  said_front state saying (turn ∷ turns) events (more, fits, is, talks) =
      let (rest, joined) = said_front (rules.next state turn) (rules.texts state turn) turns more talks in (
        rest,
        concat-append saying (texts_of rules state (turn ∷ turns)) ∙ ap (λ l. concat saying ++ l) joined ∙ sym (append_assoc (concat saying) (said_in more) rest)
            ∙ ap (λ l. l ++ rest) (sym (said_in-says saying (Heard (rules.line turn) ∷ more)) ∙ sym (ap said_in is)),
      )

  -- what a conversation has said when it ended
  pub said_all : (opening : List (List ℕ)) (first last : S) (before after : Told) (rose : Type 0) (talked : Conversation rules Fits opening first last before after rose Ended)
      → known.Appends before.said after.said (concat (opening ++ texts_of rules first talked.talk.turns))
  said_all opening first last before after rose talked =
      let said = said_whole first opening Ended talked.talk.turns talked.talk.events (λ e. let wrong = e in cc) talked.talk.talks in
      subst (known.Appends before.said after.said) said talked.talk.adds.1

pub says_all : {S T : Type 0} → SaysAll S T
says_all = record {
  whole = λ rules first opening ending turns events whole talks. said_whole rules AnyFits first opening ending turns events whole talks;
  front = λ rules first opening turns events talks. said_front rules AnyFits first opening turns events talks;
  ended = λ rules opening first last before after faults faults_after talked. (talked.talk.takes, said_all rules AnyFits opening first last before after _ talked);
}
