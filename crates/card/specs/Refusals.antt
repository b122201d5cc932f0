-- The number, the half and the place of each refusal of a card and of its printing. 0 stands where one has no meaning.
use Rattle.std.specs.Prelude.{ℕ}
use Rattle.reports.specs.declared.report.Report.{Report}
use Rattle.card.specs.declared.refusal.CardRefusal.{CardRefusal}
use Rattle.card.specs.declared.refusal.CardRefusal.TheVariants.{NotNineOctets, CheckOctet, FirstOctet, Latitude, Longitude, TelephoneLength, TelephoneSymbol, TelephoneExtension, MessageLength, MessageOctet, NoSuchField}
use Rattle.card.specs.declared.refusal.PrintRefusal.{PrintRefusal}
use Rattle.card.specs.declared.refusal.PrintRefusal.TheVariants.{ShortBuffer}

abbrev pub card_number : CardRefusal → ℕ
card_number NotNineOctets = 1
card_number CheckOctet = 2
card_number FirstOctet = 3
card_number Latitude = 4
card_number Longitude = 5
card_number TelephoneLength = 6
card_number (TelephoneSymbol place) = 7
card_number TelephoneExtension = 8
card_number MessageLength = 9
card_number (MessageOctet place) = 10
card_number NoSuchField = 11

-- no refusal of a card speaks of a half
abbrev pub card_half : CardRefusal → ℕ
card_half r = 0

abbrev pub card_place : CardRefusal → ℕ
card_place NotNineOctets = 0
card_place CheckOctet = 0
card_place FirstOctet = 0
card_place Latitude = 0
card_place Longitude = 0
card_place TelephoneLength = 0
card_place (TelephoneSymbol place) = place
card_place TelephoneExtension = 0
card_place MessageLength = 0
card_place (MessageOctet place) = place
card_place NoSuchField = 0

abbrev pub card_report : CardRefusal → Report
card_report r = record { number = card_number r; half = card_half r; place = card_place r }

abbrev pub print_number : PrintRefusal → ℕ
print_number ShortBuffer = 28

abbrev pub print_half : PrintRefusal → ℕ
print_half r = 0

abbrev pub print_place : PrintRefusal → ℕ
print_place r = 0

abbrev pub print_report : PrintRefusal → Report
print_report r = record { number = print_number r; half = print_half r; place = print_place r }
