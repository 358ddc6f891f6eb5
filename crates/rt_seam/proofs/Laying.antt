-- All that is asked of where parts lie.
use Rattle.rt_follows.specs.Whole.{Whole, Lays}
use Rattle.rt_imaged.specs.Laid.{LaysAll}

pub lays_of : (w : Whole) → LaysAll w → Lays w
lays_of w a = record {
  order = a.order;
  top = a.top;
  room = a.room;
  even_code = a.even_code;
  words = a.places.words;
  bytes = a.places.bytes;
  small = a.places.small;
  apart = a.places.apart;
  one_to_one = a.places.one_to_one;
  fixed = a.fixed;
  fields = a.places.fields;
  elements = a.places.elements;
  rows = a.places.rows;
  texts = a.places.texts;
  entries = a.entries;
  supports = a.supports;
  least = a.least;
}
