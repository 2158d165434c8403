use Rattle.std.proofs.Common.{◌≡◌, ◌∙◌, ◌++◌, ℕ, List, [], ◌∷◌, length, take, refl, sym, ap, subst, arith, length-append}
use Rattle.std.specs.Prelude.{codes, decimal}
use Rattle.std.proofs.lemmas.Fmt.{length-decimal-le}
use Rattle.site_types.specs.declared.site.Site.{Site}
use Rattle.record_lines.specs.Lines.{accepted, at_start, reading_of}
use Rattle.record_lines.specs.ReadBack.{IsReadAs, MayCome, ReadsBack}
use Rattle.record_lines.specs.Stands.{Feeds, StandsFor}
use Rattle.record_lines.specs.declared.fed.Fed.{Fed}
use Rattle.record_lines.specs.declared.reader.LineReader.{LineReader}
use Rattle.desk_ticks.proofs.Behind.{whole_taken}
use Rattle.desk_ticks.specs.Blocks.{tick_one}
use Rattle.desk_ticks.proofs.checking.begin.Goals as goal

-- the line of the first tick may come at the beginning
read_first : (site : Site) (text : List ℕ) → ReadsBack site tick_one text → IsReadAs site tick_one text []
read_first site text reads =
    let may : MayCome site at_start.so_far tick_one = record { belongs = (omega arith, omega arith); spelled = tt; due = refl } in
    reads [] (record { going = refl; fresh = refl }) may

-- and it is taken whole
taken_first : (site : Site) (text : List ℕ) (fed : Fed) (reader : LineReader) → IsReadAs site tick_one text []
    → Feeds site [] (text ++ 10 ∷ []) fed reader → StandsFor site (text ++ 10 ∷ []) reader
taken_first site text fed reader read feeds =
    let line = text ++ 10 ∷ [] in
    let all : take fed.used line ≡ line =
    ap (λ n. take n line) ((read.answered fed reader feeds).1 ∙ sym (length-append text (10 ∷ []))) ∙ whole_taken line in
    subst (λ xs. StandsFor site xs reader) all feeds.stands

pub push-requires : goal.push-requires
push-requires c =
    let text = ap (λ (xs : List ℕ). length xs) c.print_line.ensures.text in
    let sum = length-append (codes "tick ") (decimal 1) in
    let short = length-decimal-le 20 1 (omega arith) (omega arith) (omega arith) in
    omega (arith, text, sum, short)

pub returns-clause-stands : goal.returns-clause-stands
returns-clause-stands c =
    let site = c.args.site.now in
    let text = c.print_line.new.out.items in
    let given = c.as_slice.ensures.value ∙ c.push.ensures.items in
    let feeds = subst (λ xs. Feeds site [] xs c.feed.result c.feed.new.self) given (c.feed.ensures.feeds [] c.requires.fresh) in
    subst (λ xs. StandsFor site (xs ++ 10 ∷ []) c.feed.new.self) c.print_line.ensures.text
    (taken_first site text c.feed.result c.feed.new.self (read_first site text (c.print_line.ensures.read_back c.requires.valid)) feeds)

pub returns-clause-reads : goal.returns-clause-reads
returns-clause-reads c =
    let site = c.args.site.now in
    let text = c.print_line.new.out.items in
    let read = read_first site text (c.print_line.ensures.read_back c.requires.valid) in
    subst (λ xs. reading_of site (xs ++ 10 ∷ []) ≡ accepted at_start tick_one) c.print_line.ensures.text read.told
