use Rattle.puma_ctl.proofs.ReplyLemmas.{begins_unique, begins_not_refused, begins_itself, begins_stays, refused_stays}
use Rattle.puma_ctl.proofs.laws.one_reply_begins.Goals as goal

pub returns : goal.returns
returns c = record {
  one = begins_unique;
  apart = begins_not_refused;
  itself = begins_itself;
  stays = begins_stays;
  never = refused_stays;
}
