-- Words and files have a start of a conversation, and one alone, over the workbook of a run.
use Rattle.std.specs.Prelude.{Option, Some, None, Result, Ok, Err}
use Rattle.std.proofs.Common.{◌≡◌, ℕ, List, subst, refl}
use Rattle.smk_base.specs.declared.fault.Fault.{Fault}
use Rattle.smk_model.specs.{ConversationLaws.{OneTalkStart, SomeTalkStart}, Outcome.{Held, Inputs, ReadsFiles, inputs, source_of, book_of}, TalkStarts.{ReadsTalk, unusable, usable, StartsTalk, unreadable, read, started}, TalkWords.{TalkCall, talk_call_of}}
use Rattle.smk_model.proofs.{OneOutcome.{same_opened, same_files}, SomeOutcome.some_files}

same_call : {asked : Option TalkCall} {u v : TalkCall} → asked ≡ Some u → asked ≡ Some v → v ≡ u
same_call h k = cc

same_read : {words : List (List ℕ)} {held : Held} {a b : Result Inputs Fault} → ReadsTalk words held a → ReadsTalk words held b → a ≡ b
same_read (unusable w) (unusable v) = refl
same_read (unusable w) (usable v q) = absurd (cc)
same_read (usable w p) (unusable v) = absurd (cc)
same_read {held = held} {b = b} (usable w p) (usable v q) =
    same_files p (subst (λ (call : TalkCall). ReadsFiles (source_of call.texts held) (book_of call.texts) None b) (same_call w v) q)

same_start : {words : List (List ℕ)} {held : Held} {a b : Result Inputs Fault} → StartsTalk words held a → StartsTalk words held b → a ≡ b
same_start (unreadable p) (unreadable q) = let e = same_read p q in cc
same_start (unreadable p) (read q k) = let e = same_read p q in absurd (cc)
same_start (read p h) (unreadable q) = let e = same_read p q in absurd (cc)
same_start (read p h) (read q k) = let e = same_read p q in cc

same_workbook : {held : Held} {book : List ℕ} {a b : Option (List ℕ)} {first given : Inputs} → ReadsFiles held book a (Ok first) → ReadsFiles held book b (Ok given) → (first.book ≡ given.book) × (first.fds ≡ given.fds)
same_workbook (inputs b t s a) (inputs c u r d) = let o = same_opened b c in (cc, cc)

pub one_talk_start : OneTalkStart
one_talk_start = record {
  one = λ words held a b p q. same_start p q;
  same = λ held book script first given p q. same_workbook p q;
}

some_read : (words : List (List ℕ)) (held : Held) → (answer : Result Inputs Fault) × ReadsTalk words held answer
some_read words held = by (talk_call_of words) refl
  where
    by : (c : Option TalkCall) → talk_call_of words ≡ c → (answer : Result Inputs Fault) × ReadsTalk words held answer
    by None e = (_, unusable e)
    by (Some call) e = let r = some_files (source_of call.texts held) (book_of call.texts) None in (r.0, usable e r.1)

pub some_talk_start : SomeTalkStart
some_talk_start words held = let r = some_read words held in by r.0 r.1
  where
    by : (a : Result Inputs Fault) → ReadsTalk words held a → (answer : Result Inputs Fault) × StartsTalk words held answer
    by (Ok given) p = (started given, read p refl)
    by (Err fault) p = (Err fault, unreadable p)
