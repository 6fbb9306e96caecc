-- Lines that were refused by reads that failed, in counts.
use Rattle.std.proofs.{Common.{◌≡◌, ◌≤◌, ◌+◌, ℕ, Bool, true, false, List, [], ◌∷◌, ◌++◌, Option, Some, None, Result, Ok, Err, refl, ap, ◌∙◌, sym, subst, arith, inl, inr, length, length-append}, lemmas.List.Elements.filter-append}
use Rattle.std.specs.{List.filter, Option.ok_or, Prelude.{cond, nat_lt}}
use Rattle.smk_base.specs.{CatalogImage.CatalogImage, declared.book.catalog.TableInfo.TableInfo, declared.fault.Fault.TheVariants.{FileLong, Unread}, declared.fault.TableFault.TableFault, declared.fault.TableFault.TheVariants.TooManyRows}
use Rattle.smk_model.specs.{Conversation.{TalkTurn, Unbrought, TalkState, FitsTalk}, Names.◌>>=◌, Outcome.{Held, load, kept_short, file_limit, fault_of_table, or_table_fault}, Tables.table_of, TalkStarts.{BringsBy, FailedReads, is_misread, misreads}, Values.Row}

-- reads in one time and in the next
pub reads_joined : (m n before between after : ℕ) → FailedReads m before between → FailedReads n between after → FailedReads (m + n) before after
reads_joined m n before between after (inl p) (inl q) = inl (omega (arith, p, q))
reads_joined m n before between after (inr p) (inl q) = inr (omega (arith, p, q))
reads_joined m n before between after p (inr q) = inr q

-- reads in a part of a longer time
pub reads_within : (n start before after end : ℕ) → start ≤ before → after ≤ end → FailedReads n before after → FailedReads n start end
reads_within n start before after end s e (inl p) = inl (omega (arith, s, e, p))
reads_within n start before after end s e (inr p) = inr (omega (arith, e, p))

-- those of turns, one part after the other
pub misreads_joined : (held : Option Held) (a b : List TalkTurn) (before between after : ℕ) → FailedReads (misreads held a) before between → FailedReads (misreads held b) between after → FailedReads (misreads held (a ++ b)) before after
misreads_joined held a b before between after p q =
    subst (λ n. FailedReads n before after) (sym (ap length (filter-append (is_misread held) a b) ∙ length-append (filter (is_misread held) a) (filter (is_misread held) b)))
    (reads_joined (misreads held a) (misreads held b) before between after p q)

-- a file that is found not to be there isn't held
file_missing : (held : Held) (table : TableInfo) (file : List ℕ) → load held table ≡ Err (Unread file) → held file ≡ None
file_missing held table file is = by (held table.file) refl is
  where
    other : (fault : TableFault) → fault_of_table table fault ≡ Unread file → ⊥
    other TooManyRows is = absurd (cc)
    other _ is = absurd (cc)

    read : (rows : Result (List Row) TableFault) → or_table_fault table rows ≡ Err (Unread file) → ⊥
    read (Ok rows) is = absurd (cc)
    read (Err fault) is = other fault cc

    kept : (bytes : List ℕ) (long : Bool) → (cond long (Err (FileLong table.file)) (Ok bytes) >>= λ bytes. or_table_fault table (table_of table.cols bytes)) ≡ Err (Unread file) → ⊥
    kept bytes true is = absurd (cc)
    kept bytes false is = read (table_of table.cols bytes) is

    by : (found : Option (List ℕ)) → held table.file ≡ found → ((ok_or found (Unread table.file) >>= kept_short table.file) >>= λ bytes. or_table_fault table (table_of table.cols bytes)) ≡ Err (Unread file) → held file ≡ None
    by None none is = let named : table.file ≡ file = cc is in subst (λ name. held name ≡ None) named none
    by (Some bytes) some is = absurd (kept bytes (nat_lt file_limit (length bytes)) is)

-- that of a turn, by the count of faults in it
pub misread_once : (read_only : Bool) (catalog : CatalogImage) (held : Option Held) (rose : Type 0) (before after : ℕ) → before ≤ after → (rose → FailedReads 1 before after)
    → (state : TalkState) (turn : TalkTurn) → FitsTalk read_only catalog (BringsBy held rose) state turn → FailedReads (misreads held (turn ∷ [])) before after
misread_once read_only catalog held rose before after later shows state (Unbrought bytes (Unread file)) (short, un, allowed) = by held un.brings
  where
    counted : (held : Bool) → FailedReads 1 before after → FailedReads (length (cond held (Unbrought bytes (Unread file) ∷ []) [])) before after
    counted true up = up
    counted false up = inl (omega (arith, later))

    by : (h : Option Held) → BringsBy h rose (Some un.table) (Err (Unread file)) → FailedReads (misreads h (Unbrought bytes (Unread file) ∷ [])) before after
    by None up = shows up
    by (Some h) (inl none) = rw (file_missing h un.table file none) (inl (omega (arith, later)))
    by (Some h) (inr (up, unread)) = counted _ (shows up)
misread_once read_only catalog held rose before after later shows state _ fits = inl (omega (arith, later))
