-- Parts put behind one another, one at a time.
use Rattle.std.proofs.{Common.{◌≡◌, ◌∙◌, ◌<◌, ◌+◌, ℕ, zero, suc, List, [], ◌∷◌, ◌++◌, length, drop, get_or, Ok, Err, refl, sym, ap, arith, append_assoc, length-append, Bor, Result, nat_eq, ne_eqb, map, ◌==◌, All, IfOk, false}, lemmas.List.{get_or-map, length-map}}
use Rattle.smk_base.specs.{Rels.Relation, declared.value.Value.Value, declared.fault.TableFault.TableFault, declared.fault.TableFault.TheVariants.NoMemory, declared.book.col_decl.ColDecl.ColDecl}
use Rattle.std.specs.Prelude.{◌⊎◌, IfErr}
use Rattle.smk_model.specs.{Names.◌>>=◌, Tables.declared_kinds}
use Rattle.smk_table.specs.{Pieces.{Part, part_behind, parts_behind, rows_from, behind_header, parts_of, Gives, GivesAll}, Cuts.read_of}

abbrev pub all_behind : List (List Value) → List Part → Part
all_behind rows parts = ◌>>=◌ (parts_behind (length rows) parts) (λ more. Ok (rows ++ more))

next_of : (parts : List Part) (p : ℕ) (d : Part) → p < length parts → drop p parts ≡ get_or parts p d ∷ drop (p + 1) parts
next_of [] p d l = absurd (omega arith)
next_of (x ∷ parts) zero d l = refl
next_of (x ∷ parts) (suc p) d l = let e : suc p + 1 ≡ suc (p + 1) = omega arith in rw e (next_of parts p d (omega arith))

one_part : (rows some : List (List Value)) (part : Part) (parts : List Part) → part_behind (length rows) part ≡ Ok some → all_behind rows (part ∷ parts) ≡ all_behind (rows ++ some) parts
one_part rows some part parts h = rw (h, length-append rows some) (on (parts_behind (length rows + length some) parts))
  where
    on : (q : Part) → ◌>>=◌ (◌>>=◌ q (λ more. Ok (some ++ more))) (λ more. Ok (rows ++ more)) ≡ ◌>>=◌ q (λ more. Ok ((rows ++ some) ++ more))
    on (Err fault) = refl
    on (Ok more) = ap (λ l. Ok l) (sym (append_assoc rows some more))

one_fault : (rows : List (List Value)) (fault : TableFault) (part : Part) (parts : List Part) → part_behind (length rows) part ≡ Err fault → all_behind rows (part ∷ parts) ≡ Err fault
one_fault rows fault part parts h = rw h refl

pub join_step : (read : List Part) (p : ℕ) (rows some : List (List Value)) → p < length read → parts_behind 0 read ≡ all_behind rows (drop p read) → part_behind (length rows) (get_or read p (Ok [])) ≡ Ok some
    → parts_behind 0 read ≡ all_behind (rows ++ some) (drop (p + 1) read)
join_step read p rows some l h e = h ∙ ap (all_behind rows) (next_of read p (Ok []) l) ∙ one_part rows some (get_or read p (Ok [])) (drop (p + 1) read) e

pub join_fault : (read : List Part) (p : ℕ) (rows : List (List Value)) (fault : TableFault) → p < length read → parts_behind 0 read ≡ all_behind rows (drop p read) → part_behind (length rows) (get_or read p (Ok [])) ≡ Err fault
    → parts_behind 0 read ≡ Err fault
join_fault read p rows fault l h e = h ∙ ap (all_behind rows) (next_of read p (Ok []) l) ∙ one_fault rows fault (get_or read p (Ok [])) (drop (p + 1) read) e

-- the parts that pieces give, place by place
pub gives_all : (cols : List ColDecl) (places : List ℕ) (width : ℕ) (texts : List (Bor (List ℕ))) (made : List (Result Relation TableFault)) → length made ≡ length texts
    → ((p : ℕ) (d : Bor (List ℕ)) (e : Result Relation TableFault) → p < length texts → Gives cols (rows_from cols places width 1 (behind_header (p == 0) (read_of (get_or texts p d)))) (get_or made p e))
    → GivesAll cols (parts_of cols places width (map read_of texts)) made
gives_all cols places width [] made long each = record { all = long; each = λ p d e l. absurd (omega arith) }
gives_all cols places width (t ∷ texts) made long each = record { all = long ∙ ap suc (sym (length-map (map read_of texts) (rows_from cols places width 1) ∙ length-map texts read_of)); each = at }
  where
    plain : (read : List (List (List ℕ))) → behind_header false read ≡ read
    plain [] = refl
    plain (x ∷ read) = refl

    at : (p : ℕ) (d : Part) (e : Result Relation TableFault) → p < length (parts_of cols places width (read_of t ∷ map read_of texts)) → Gives cols (get_or (parts_of cols places width (read_of t ∷ map read_of texts)) p d) (get_or made p e)
    at zero d e l = each 0 t e (omega arith)
    at (suc p) d e l =
        let inside : p < length texts = omega (arith, l, length-map (map read_of texts) (rows_from cols places width 1), length-map texts read_of) in
        let later : nat_eq (suc p) 0 ≡ false = ne_eqb (suc p) 0 (λ q. absurd (omega (arith, q))) in
        let here : p < length (map read_of texts) = omega (arith, inside, length-map texts read_of) in
        rw (get_or-map (rows_from cols places width 1) (map read_of texts) p (read_of t) d here, get_or-map read_of texts p t (read_of t) inside) (rw (later, plain (read_of (get_or texts p t))) at (each (suc p) t e (omega (arith, inside))))

-- each result of a part has the kinds of the columns
pub gives_kinds : (cols : List ColDecl) (part : Part) (r : Result Relation TableFault) → Gives cols part r → IfOk r (λ rel. rel.kinds ≡ declared_kinds cols)
gives_kinds cols part (Ok rel) h = h.1
gives_kinds cols part (Err fault) h = tt

pub all_kinds : (cols : List ColDecl) (parts : List Part) (made : List (Result Relation TableFault)) → GivesAll cols parts made → All (λ r. IfOk r (λ rel. rel.kinds ≡ declared_kinds cols)) made
all_kinds cols parts made all k d l = let long = all.all in gives_kinds cols _ _ (all.each k (Ok []) d (omega (arith, l, long)))

-- what a table or a fault says of the parts that it was read from
pub gives_rows : (cols : List ColDecl) (part : Part) (r : Result Relation TableFault) → Gives cols part r → IfOk r (λ rel. part ≡ Ok rel.rows)
gives_rows cols part (Ok rel) h = h.0
gives_rows cols part (Err fault) h = tt

pub gives_fault : (cols : List ColDecl) (part : Part) (r : Result Relation TableFault) → Gives cols part r → IfErr r (λ fault. (fault ≡ NoMemory) ⊎ (part ≡ Err fault))
gives_fault cols part (Ok rel) h = tt
gives_fault cols part (Err fault) h = h
