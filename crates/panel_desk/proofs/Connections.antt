-- One connection, from what was read to what was sent.
use Rattle.std.proofs.Common.{◌≡◌, ℕ, List, Option, refl, sym, ap, subst, arith}
use Rattle.desk_register.specs.Replies.{IsUnchanged, KeeperSides}
use Rattle.desk_requests.specs.Taking.{ReadsOneRequest, body_of}
use Rattle.desk_requests.specs.declared.status.Status.{Status}
use Rattle.desk_requests.specs.declared.taken.Request.{Request}
use Rattle.desk_requests.specs.declared.taken.Taken.{Taken}
use Rattle.desk_requests.specs.declared.taken.Taken.TheVariants as taken
use Rattle.desk_runs.specs.Ticks.{at_rest}
use Rattle.panel_desk.specs.Acting.{HasReplied}
use Rattle.panel_desk.specs.Replies.{Replies, refused_reply}
use Rattle.panel_desk.specs.Serving.{ConnSides, Sends, ServesOne}
use Rattle.panel_desk.specs.declared.reply.Reply.{Reply}
use Rattle.panel_desk.specs.declared.served.Served.{Served}
use Rattle.panel_desk.specs.declared.served.Served.TheVariants.{Ended, ReadFault}
use Rattle.panel_rules.specs.Moments.{TickBlock}
use Rattle.site_run.specs.Outside.{Disks, stored_new, stored_old}
use Rattle.site_run.specs.Stands.{Stands}
use Rattle.site_run.specs.declared.run.Run.{Run}
use Rattle.site_run.proofs.Cuts.{stores_as, stores_same}
use Rattle.site_run.proofs.Stood.{with_page}
use Rattle.site_types.specs.declared.retained.Retained.{Retained}
use Rattle.site_types.specs.declared.site.Site.{Site}

module _ (site : Site) (kept : Retained) (ticks : List TickBlock) (conn : ConnSides) (sides : KeeperSides) (disks : Disks) where
  -- with another page a run stands as it did
  page_stands : (after : List TickBlock) (run paged : Run) → paged ≡ record run { page = paged.page } → Stands site kept (at_rest after) run
      → Stands site kept (at_rest after) paged
  page_stands after run paged rest stands = subst (Stands site kept (at_rest after)) (sym rest) (with_page site kept (at_rest after) run paged.page stands)

  -- nothing could be answered
  pub ended : (run : Run) (bytes : List ℕ) → disks.new ≡ disks.old → Stands site kept (at_rest ticks) run
      → ReadsOneRequest site.panels conn.left conn.rest bytes taken.Ended → IsUnchanged sides → conn.written_after ≡ conn.written_before
      → ServesOne site kept ticks conn sides disks run run Ended
  ended run bytes same stands read keeper written =
      record {
        after = ticks;
        is = record {
          bytes = bytes;
          what = taken.Ended;
          read = read;
          serves = (refl, record { all = record { ticks = refl; keeper = keeper }; written = written });
          stores = stores_same site kept (stored_old disks run) (stored_new disks run) ticks same refl;
        };
        stands = stands;
        few = omega arith;
      }

  pub broken : (run : Run) (bytes : List ℕ) → disks.new ≡ disks.old → Stands site kept (at_rest ticks) run
      → ReadsOneRequest site.panels conn.left conn.rest bytes taken.ReadFault → IsUnchanged sides → conn.written_after ≡ conn.written_before
      → ServesOne site kept ticks conn sides disks run run ReadFault
  broken run bytes same stands read keeper written =
      record {
        after = ticks;
        is = record {
          bytes = bytes;
          what = taken.ReadFault;
          read = read;
          serves = (refl, record { all = record { ticks = refl; keeper = keeper }; written = written });
          stores = stores_same site kept (stored_old disks run) (stored_new disks run) ticks same refl;
        };
        stands = stands;
        few = omega arith;
      }

  -- the head was refused
  pub refused_head : (run paged : Run) (bytes : List ℕ) (status : Status) (served : Served) → disks.new ≡ disks.old → Stands site kept (at_rest ticks) run
      → ReadsOneRequest site.panels conn.left conn.rest bytes (taken.Refused status) → IsUnchanged sides → paged ≡ record run { page = paged.page }
      → Sends site kept ticks (refused_reply status) conn served → ServesOne site kept ticks conn sides disks run paged served
  refused_head run paged bytes status served same stands read keeper rest sends =
      record {
        after = ticks;
        is = record {
          bytes = bytes;
          what = taken.Refused status;
          read = read;
          serves = (record { ticks = refl; keeper = keeper }, sends);
          stores = stores_same site kept (stored_old disks run) (stored_new disks paged) ticks same (ap (λ (r : Run). r.journal) rest);
        };
        stands = page_stands ticks run paged rest stands;
        few = omega arith;
      }

  -- the request was replied to
  pub replied : (run mid paged : Run) (bytes : List ℕ) (request : Request) (reply : Reply) (served : Served)
      → ReadsOneRequest site.panels conn.left conn.rest bytes (taken.Asked request)
      → (did : HasReplied (λ after. Replies site request.route (body_of request bytes) sides ticks after reply) site kept ticks disks reply run mid)
      → paged ≡ record mid { page = paged.page } → Sends site kept did.after reply conn served → ServesOne site kept ticks conn sides disks run paged served
  replied run mid paged bytes request reply served read did rest sends =
      record {
        after = did.after;
        is = record {
          bytes = bytes;
          what = taken.Asked request;
          read = read;
          serves = record { reply = reply; replies = did.does; sends = sends };
          stores = stores_as site kept (stored_old disks run) (stored_new disks mid) ticks did.after paged.journal (ap (λ (r : Run). r.journal) rest) did.stores;
        };
        stands = page_stands did.after mid paged rest did.stands;
        few = did.few;
      }

-- what was read of a connection, at the site and as far as it is left in the end
pub read_here : (panels there : ℕ) (left mid rest : Option (List ℕ)) (bytes : List ℕ) (what : Taken) → panels ≡ there → rest ≡ mid
    → ReadsOneRequest panels left mid bytes what → ReadsOneRequest there left rest bytes what
read_here panels there left mid rest bytes what same is read =
    subst (λ n. ReadsOneRequest n left rest bytes what) same (subst (λ o. ReadsOneRequest panels left o bytes what) (sym is) read)
