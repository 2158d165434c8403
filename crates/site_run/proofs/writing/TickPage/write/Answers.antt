use Rattle.std.proofs.Common.{◌≡◌, ◌++◌, ◌∙◌, [], ℕ, Bool, true, false, List, Some, None, Result, Ok, Err, OnOk, OnErr, if◌then◌else◌, is_err, ap, subst, sym}
use Rattle.panel_edges.specs.Contents.{Grows, GrowsByFront}
use Rattle.site_run.specs.Pages.{page_text}
use Rattle.site_run.proofs.writing.TickPage.write.Goals as goal

same_front : (one other : List ℕ) → Some one ≡ Some other → one ≡ [] → other ≡ []
same_front one other same none = cc

-- a page that was empty and was not passed has the text that was put
text_of_page : {T E : Type 0} (put : Result T E) (cleared bytes text : List ℕ) (passed : Bool) → is_err put ≡ false → cleared ≡ [] → passed ≡ false
    → OnOk put (Grows (Some cleared) (if passed then None else Some bytes) text) → bytes ≡ text
text_of_page (Err e) cleared bytes text passed fine none kept h = cc
text_of_page (Ok x) cleared bytes text true fine none kept h = cc
text_of_page (Ok x) cleared bytes text false fine none kept (before, was, is) = is ∙ ap (λ xs. xs ++ text) (same_front cleared before was none)

is_page : (told : Bool) (text : List ℕ) → told ≡ true → text ≡ (if told then text else [])
is_page told text e = sym (ap (λ b. if b then text else []) e)

pub returns-then-is_err-clause-err : goal.returns-then-is_err-clause-err
returns-then-is_err-clause-err g c =
    let told = sym c.is_told.ensures ∙ c.if-not-is_told.false in
    subst (λ t. OnErr c.put.result (GrowsByFront (g.K.Stream.written c.args.out.now) (g.K.Stream.written c.put.new.out) t)) (is_page _ _ told) c.put.ensures.err

pub returns-clause-err : goal.returns-clause-err
returns-clause-err g c =
    let page = c.args.self.now in
    let text = page_text page.faces.site.now page.tick page.faces.before.now page.faces.after.now page.answers.now in
    let told = sym c.is_told.ensures ∙ c.if-not-is_told.false in
    let fine = sym c.is_err.ensures.value ∙ c.if-is_err.false in
    let is =
    c.as_slice.ensures.value ∙ text_of_page c.put-put.result c.clear.new.self.items c.put-put.new.out.bytes.items text
    c.put-put.new.out.passed fine c.clear.ensures.items c.if-page.false c.put-put.ensures.ok in
    subst (λ t. OnErr c.write_all.result (GrowsByFront (g.K.Stream.written c.args.out.now) (g.K.Stream.written c.write_all.new.out) t)) (is ∙ is_page _ text told)
    c.write_all.ensures.err
